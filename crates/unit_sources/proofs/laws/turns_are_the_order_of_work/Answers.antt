use Rattle.std.proofs.Common.{◌++◌, List, length, ap, ◌∙◌}
use Rattle.std.specs.Prelude.{reverse}
use Rattle.scheme_model.specs.Program.{UnitResult}
use Rattle.unit_sources.specs.Orders.{with_imports, numbers}
use Rattle.import_sets.specs.InTurn.{in_turn}
use Rattle.unit_sources.proofs.WorkLaws.{numbers_of_work}
use Rattle.unit_sources.proofs.laws.turns_are_the_order_of_work.Goals as goal

pub returns : goal.returns
returns c all known before first none =
    numbers_of_work all (with_imports all) known none (length all) before
    ∙ ap (λ (rs : List UnitResult). reverse (numbers rs) ++ in_turn (with_imports all) (length all) (reverse (numbers rs))) first
