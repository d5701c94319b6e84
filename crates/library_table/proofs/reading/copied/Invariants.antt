use Rattle.std.proofs.Common.{◌≡◌, ◌++◌, drop, map}
use Rattle.included_forms.specs.Steps.{form_of as listed_form}
use Rattle.unit_sources.specs.UnitsRead.{forms_of}
use Rattle.library_table.specs.ListingsRead.{forms_left}
use Rattle.library_table.proofs.reading.copied.Given as goal

abbrev pub invariant-loop-form : goal.invariant-loop-form
invariant-loop-form l = forms_of l.forms.items ++ forms_left l.leads (map listed_form (drop l.form-index l.listed)) ≡ forms_left l.leading (map listed_form l.listed)
