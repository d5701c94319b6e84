use Rattle.renumbering_laws.specs.Arrows.{name_use_as}
use Rattle.renumbering_laws.proofs.ProgramArrowLaws.{program_arrows_renumbered}
use Rattle.renumbering_laws.proofs.BoundLocals.{bound_alike}
use Rattle.renumbering_laws.proofs.ArrowOrders.{arrows_around}
use Rattle.renumbering_laws.proofs.laws.arrows_are_renumbered.Goals as goal
use Rattle.std.proofs.Common.{map, refl}

pub returns : goal.returns
returns c = record {
  in_order = λ r us vs names table table' o m tables. program_arrows_renumbered r o us vs m names (map (name_use_as r) names) refl table table' tables;
  in_any_order = λ r us vs names names' table table' o m bound same tables. arrows_around r us vs m o bound names names' same table table' tables;
  bound_alike = λ r us vs o m apart. bound_alike r us vs o m apart;
}
