use Rattle.std.proofs.Common.{◌≡◌, drop}
use Rattle.std.specs.List.{list_any}
use Rattle.scheme_model.specs.Program.{is_import}
use Rattle.unit_sources.specs.UnitsRead.{forms_of}
use Rattle.unit_sources.proofs.declared.has_import.Given as goal

abbrev pub invariant-loop-form : goal.invariant-loop-form
invariant-loop-form l = list_any is_import (forms_of (drop l.form-index l.forms)) ≡ list_any is_import (forms_of l.forms)
