use Rattle.std.proofs.Common.{◌≡◌, ◌++◌, take}
use Rattle.arrow_index.specs.Keywords.{forms_keywords}
use Rattle.arrow_index.proofs.accesses.add_unit_keywords.Given as goal

abbrev pub invariant-loop-form : goal.invariant-loop-form
invariant-loop-form l = l.places.items ≡ l.fn.places.items ++ forms_keywords (take l.form-index l.forms)
