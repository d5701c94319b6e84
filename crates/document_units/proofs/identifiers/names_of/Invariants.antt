use Rattle.std.proofs.Common.{◌≡◌, take}
use Rattle.unit_sources.specs.UnitsRead.{forms_of}
use Rattle.scheme_model.specs.Sites.{names_in_forms}
use Rattle.document_units.proofs.identifiers.names_of.Given as goal

abbrev pub invariant-loop-number : goal.invariant-loop-number
invariant-loop-number l = l.names.items ≡ names_in_forms l.unit 0 (forms_of (take l.number l.forms))
