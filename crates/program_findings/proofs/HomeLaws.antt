-- The form with a number of a unit holds what the form at that place does.
use Rattle.std.proofs.Common.{◌≡◌, ◌+◌, ℕ, zero, suc, List, [], ◌∷◌, length, nat_lt, slice_get, get_or, Bool, true, false, Some, refl, sym, arith}
use Rattle.std.proofs.lemmas.Bool.Decides.{nat_tests}
use Rattle.std.proofs.lemmas.Option.{slice_get_read}
use Rattle.scheme_model.specs.declared.Occ.{Occ}
use Rattle.scheme_model.specs.Declarations.{home_of, is_token_of, holds_at, forms_hold}
use Rattle.datum_reader.specs.Views.{datum_of}
use Rattle.unit_sources.specs.declared.units.UnitForm.{UnitForm}
use Rattle.unit_sources.specs.UnitsRead.{form_of, forms_of}

-- what a form holds that has this number
abbrev held : (unit number : ℕ) → UnitForm → Occ → Bool
held unit number f o = is_token_of (home_of unit number (form_of f)) (datum_of f.datum) o

held_at : (unit k : ℕ) (fs : List UnitForm) (n m : ℕ) (f : UnitForm) (o : Occ) → m ≡ k + n → slice_get fs n ≡ Some f → held unit m f o ≡ holds_at unit k (forms_of fs) n o
held_at unit k [] n m f o same at = cc
held_at unit k (g ∷ fs) zero m f o same at = let here : m ≡ k = omega arith in let this : g ≡ f = cc in λ j. held unit (here j) (sym this j) o
held_at unit k (g ∷ fs) (suc n) m f o same at = let next : m ≡ suc k + n = omega arith in held_at unit (suc k) fs n m f o next at

not_held : (unit k : ℕ) (fs : List UnitForm) (n : ℕ) (o : Occ) → nat_lt n (length fs) ≡ false → false ≡ holds_at unit k (forms_of fs) n o
not_held unit k [] n o far = refl
not_held unit k (g ∷ fs) zero o far = absurd (grind (arith, nat_tests))
not_held unit k (g ∷ fs) (suc n) o far = not_held unit (suc k) fs n o (grind (arith, nat_tests))

pub form_there : (unit : ℕ) (fs : List UnitForm) (n : ℕ) (f : UnitForm) (o : Occ) → nat_lt n (length fs) ≡ true → f ≡ get_or fs n f → held unit n f o ≡ forms_hold unit (forms_of fs) n o
form_there unit fs n f o low is = held_at unit 0 fs n n f o (omega arith) (slice_get_read fs (length fs) n f refl (grind (arith, nat_tests)) is)

pub no_form : (unit : ℕ) (fs : List UnitForm) (n : ℕ) (o : Occ) → nat_lt n (length fs) ≡ false → false ≡ forms_hold unit (forms_of fs) n o
no_form unit fs n o far = not_held unit 0 fs n o far
