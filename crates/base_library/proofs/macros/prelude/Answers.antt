use Rattle.scheme_model.specs.Prelude as model
use Rattle.base_library.proofs.PreludeLaws.{all_readable, macros_are, macros_checked, macros_lie}
use Rattle.base_library.proofs.macros.prelude.Goals as goal

pub returns-clause-macros : goal.returns-clause-macros
returns-clause-macros c =
    macros_are c.add_macros.new.work c.args.region.now c.in_ok-add_macros.field-0 c.sketches.result.now model.prelude c.in_ok-add_macros.ensures.1 c.sketches.ensures.macros all_readable

pub returns-clause-checked : goal.returns-clause-checked
returns-clause-checked c =
    macros_checked c.add_macros.new.work c.in_ok-add_macros.field-0 model.prelude
    (macros_are c.add_macros.new.work c.args.region.now c.in_ok-add_macros.field-0 c.sketches.result.now model.prelude c.in_ok-add_macros.ensures.1 c.sketches.ensures.macros all_readable)

pub returns-clause-region : goal.returns-clause-region
returns-clause-region c = macros_lie c.add_macros.new.work c.args.region.now c.in_ok-add_macros.field-0 c.sketches.result.now c.in_ok-add_macros.ensures.1
