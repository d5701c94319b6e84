-- The tokens of forms, one form more at a time.
use Rattle.std.proofs.Common.{◌≡◌, ℕ, suc, ◌+◌, ◌<◌, List, [], ◌∷◌, ◌++◌, take, length, get_or, sym, ap, ◌∙◌, arith}
use Rattle.std.proofs.lemmas.List.{map_more, length-map, length-take-le}
use Rattle.scheme_model.specs.declared.Home.{Home}
use Rattle.scheme_model.specs.Data.{place_of}
use Rattle.scheme_model.specs.Declarations.{UnitForm, home_of}
use Rattle.core_tree.specs.declared.units.TokenRange.{TokenRange}
use Rattle.datum_reader.proofs.DatumLaws.{place-datum}
use Rattle.unit_sources.specs.declared.units.UnitForm as code_form
use Rattle.unit_sources.specs.UnitsRead.{form_of, forms_of}
use Rattle.core_tree.specs.Units.{ranges_from}

abbrev range_at : (unit form : ℕ) → UnitForm → TokenRange
range_at unit form f = record { home = home_of unit form f; first = (place_of f.datum).first; last = (place_of f.datum).last }

ranges_last : (unit n : ℕ) (fs : List UnitForm) (f : UnitForm) → ranges_from unit n (fs ++ f ∷ []) ≡ ranges_from unit n fs ++ range_at unit (n + length fs) f ∷ []
ranges_last unit n [] f = let same : n ≡ n + 0 = omega arith in ap (λ (k : ℕ). range_at unit k f ∷ []) same
ranges_last unit n (g ∷ fs) f =
    let same : suc n + length fs ≡ n + suc (length fs) = omega arith in
    ap (λ (rs : List TokenRange). range_at unit n g ∷ rs) (ranges_last unit (suc n) fs f ∙ ap (λ (k : ℕ). ranges_from unit (suc n) fs ++ range_at unit k f ∷ []) same)

-- one form more
pub range_added : (unit k : ℕ) (fs : List code_form.UnitForm) (f : code_form.UnitForm) (old new : List TokenRange) (number : ℕ) (home : Home) → k < length fs → f ≡ get_or fs k f → old ≡ ranges_from unit 0 (forms_of (take k fs)) → number ≡ k → home ≡ home_of unit number (form_of f) →
    new ≡ old ++ record { home = home; first = f.datum.first; last = f.datum.last } ∷ [] → new ≡ ranges_from unit 0 (forms_of (take (k + 1) fs))
range_added unit k fs f old new number home low is so_far called at_home e =
    let many : 0 + length (forms_of (take k fs)) ≡ k = omega (arith, length-map (take k fs) form_of, length-take-le k fs (omega arith)) in
    let same : home ≡ home_of unit (0 + length (forms_of (take k fs))) (form_of f) = at_home ∙ ap (λ (n : ℕ). home_of unit n (form_of f)) (called ∙ sym many) in
    let place = place-datum f.datum in
    e ∙ (λ j. so_far j ++ record { home = same j; first = (sym place j).first; last = (sym place j).last } ∷ [])
    ∙ sym (ranges_last unit 0 (forms_of (take k fs)) (form_of f))
    ∙ ap (ranges_from unit 0) (ap (λ (g : code_form.UnitForm). forms_of (take k fs) ++ form_of g ∷ []) is ∙ sym (map_more form_of fs k f low))
