use Rattle.std.proofs.Common.{[], map}
use Rattle.scheme_model.specs.Program.{names_of_unit}
use Rattle.renumbering_laws.specs.Exports.{entry_as}
use Rattle.renumbering_laws.proofs.ExportLaws.{names_moved, exports_moved}
use Rattle.renumbering_laws.proofs.laws.exports_are_renumbered.Goals as goal

pub returns : goal.returns
returns c = λ r table table' u imports exports tables. exports_moved r u (names_of_unit table u imports) (names_of_unit table' (r.unit u) (map (entry_as r) imports)) (names_moved r table table' tables u imports) [] exports
