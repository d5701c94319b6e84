-- Forms that are referred to, one after another.
use Rattle.std.proofs.Common.{◌≡◌, ◌<◌, ℕ, List, length, map, get_or, slice_get, Some, Bor, refl, sym, ap, ◌∙◌, arith}
use Rattle.std.proofs.lemmas.List.{get_or-map, length-map}
use Rattle.std.proofs.lemmas.Option.{slice_get_read}
use Rattle.core_tree.specs.declared.units.UnitForm.{UnitForm}

abbrev pub referred : Bor UnitForm → UnitForm
referred form = form.now

-- the one at a place
pub form_at : (forms : List (Bor UnitForm)) (i : ℕ) (form : Bor UnitForm) → i < length forms → form ≡ get_or forms i form → form.now ≡ get_or (map referred forms) i form.now
form_at forms i form below is = ap referred is ∙ sym (get_or-map referred forms i form form.now below)

pub form_there : (forms : List (Bor UnitForm)) (i : ℕ) (form : Bor UnitForm) → i < length forms → form ≡ get_or forms i form → slice_get (map referred forms) i ≡ Some form.now
form_there forms i form below is = slice_get_read (map referred forms) (length (map referred forms)) i form.now refl (omega (arith, length-map forms referred)) (form_at forms i form below is)
