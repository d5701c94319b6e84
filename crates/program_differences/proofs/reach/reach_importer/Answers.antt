use Rattle.std.proofs.Common.{List, sym, ap, ◌∙◌}
use Rattle.std.specs.Prelude.{Bool}
use Rattle.program_differences.specs.Reached.{marked, one_marked}
use Rattle.program_differences.proofs.ReachLaws.{kept_already}
use Rattle.program_differences.proofs.reach.reach_importer.Goals as goal

pub returns-then-is_reached-clause-reached : goal.returns-then-is_reached-clause-reached
returns-then-is_reached-clause-reached c =
    let old = c.args.reached.now.items in
    sym (kept_already old c.args.place (one_marked old c.args.imports.now) (ap (λ (bs : List Bool). marked bs c.args.place) (sym c.as_slice.ensures.value) ∙ sym c.is_reached.ensures ∙ c.if-is_reached.true))
