use Rattle.std.proofs.Common.{◌≡◌, ◌++◌, take}
use Rattle.datum_reader.specs.Views.{data_of}
use Rattle.document_units.specs.Identifiers.{all_names, occs_in}
use Rattle.document_units.proofs.identifiers.+names.Given as goal

abbrev pub invariant-add_parts-loop-part : goal.invariant-add_parts-loop-part
invariant-add_parts-loop-part l = l.names.items ≡ l.fn.names.items ++ occs_in l.at.unit l.at.form l.at.first (all_names (data_of (take l.part-index l.parts)))
