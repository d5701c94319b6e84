-- The Errors of import sets, each with the form that its set stands in.
use Rattle.std.proofs.Common.{◌≡◌, ℕ, zero, suc, ◌<◌, List, [], ◌∷◌, ◌++◌, append-nil, append_assoc, map, drop, length, slice_get, true, false, cond, Some, refl, sym, ap, ◌∙◌, arith}
use Rattle.std.specs.Prelude.{reverse}
use Rattle.std.specs.List.{zip}
use Rattle.std.proofs.lemmas.List.{length-map, reverse-append}
use Rattle.std.proofs.lemmas.Option.{same_Some}
use Rattle.scheme_model.specs.Data.{Datum}
use Rattle.scheme_model.specs.Declarations.{UnitForm, home_of, list_parts}
use Rattle.scheme_model.specs.Program.{ImportSpec, SetResult, Unknown, Faulty, Gives, behind_first, is_import, spec_of, specs_in, specs_from}
use Rattle.core_tree.specs.Units.{set_errors, set_forms}
use Rattle.datum_reader.specs.Views.{data_of}
use Rattle.datum_reader.specs.declared.datum.Datum as code
use Rattle.read_documents.specs.Places.{number_at}

-- ---- forms of sets

-- the same for as many
pub same_for : {A B : Type 0} (n : ℕ) (xs : List A) (ys : List B) → length xs ≡ length ys → map (λ (x : A). n) xs ≡ map (λ (y : B). n) ys
same_for n [] [] long = refl
same_for n [] (y ∷ ys) long = absurd (omega arith)
same_for n (x ∷ xs) [] long = absurd (omega arith)
same_for n (x ∷ xs) (y ∷ ys) long = ap (λ ns. n ∷ ns) (same_for n xs ys (omega arith))

-- the sets of a form that is an import declaration, and of another
pub sets_in : (unit n : ℕ) (f : UnitForm) (ds : List code.Datum) → is_import f ≡ true → data_of ds ≡ behind_first (list_parts f.datum) → map (λ (d : code.Datum). n) ds ≡ map (λ (s : ImportSpec). n) (specs_in unit n f)
sets_in unit n f ds is parts =
    let h = home_of unit n f in
    same_for n ds (map (spec_of h.unit h.form h.first) (behind_first (list_parts f.datum)))
    (sym (length-map ds _) ∙ (ap (λ (xs : List Datum). length xs) parts ∙ sym (length-map (behind_first (list_parts f.datum)) (spec_of h.unit h.form h.first))))
    ∙ ap (λ b. map (λ (s : ImportSpec). n) (cond b (map (spec_of h.unit h.form h.first) (behind_first (list_parts f.datum))) [])) (sym is)

pub no_sets_in : (unit n : ℕ) (f : UnitForm) → is_import f ≡ false → [] ≡ map (λ (s : ImportSpec). n) (specs_in unit n f)
no_sets_in unit n f is =
    let h = home_of unit n f in ap (λ b. map (λ (s : ImportSpec). n) (cond b (map (spec_of h.unit h.form h.first) (behind_first (list_parts f.datum))) [])) (sym is)

-- one form more
pub forms_next : (unit : ℕ) (fs : List UnitForm) (i j : ℕ) (f : UnitForm) (now new all : List ℕ) → j ≡ suc i → slice_get fs i ≡ Some f → new ≡ now ++ map (λ (s : ImportSpec). i) (specs_in unit i f) → now ++ set_forms unit i (drop i fs) ≡ all →
    new ++ set_forms unit j (drop j fs) ≡ all
forms_next unit fs i j f now new all next at one so =
    (λ k. one k ++ set_forms unit (next k) (drop (next k) fs))
    ∙ (append_assoc now (map (λ (s : ImportSpec). i) (specs_in unit i f)) (set_forms unit (suc i) (drop (suc i) fs)) ∙ (ap (λ gs. now ++ set_forms unit i gs) (sym (dropped fs i at)) ∙ so))
  where
    dropped : (gs : List UnitForm) (i : ℕ) → slice_get gs i ≡ Some f → drop i gs ≡ f ∷ drop (suc i) gs
    dropped [] i h = absurd cc
    dropped (x ∷ gs) zero h = ap (λ (y : UnitForm). y ∷ gs) (same_Some x f h)
    dropped (x ∷ gs) (suc i) h = dropped gs i h

-- there is one for each set
pub as_many_forms : (unit n : ℕ) (fs : List UnitForm) → length (set_forms unit n fs) ≡ length (specs_from unit n fs)
as_many_forms unit n [] = refl
as_many_forms unit n (f ∷ fs) = both (map (λ (s : ImportSpec). n) (specs_in unit n f)) (specs_in unit n f) (set_forms unit (suc n) fs) (specs_from unit (suc n) fs) (length-map (specs_in unit n f) (λ (s : ImportSpec). n)) (as_many_forms unit (suc n) fs)
  where
    both : {A B : Type 0} (xs : List A) (ys : List B) (vs : List A) (ws : List B) → length xs ≡ length ys → length vs ≡ length ws → length (xs ++ vs) ≡ length (ys ++ ws)
    both [] [] vs ws e h = h
    both [] (y ∷ ys) vs ws e h = absurd (omega arith)
    both (x ∷ xs) [] vs ws e h = absurd (omega arith)
    both (x ∷ xs) (y ∷ ys) vs ws e h = ap suc (both xs ys vs ws (omega arith) h)

pub number_is : (ns : List ℕ) (i : ℕ) → i < length ns → slice_get ns i ≡ Some (number_at ns i)
number_is [] i lt = absurd (omega arith)
number_is (n ∷ ns) zero lt = refl
number_is (n ∷ ns) (suc i) lt = number_is ns i (omega arith)

-- ---- Errors of sets

pub no_set_errors : (fs : List ℕ) → set_errors (zip fs []) ≡ []
no_set_errors [] = refl
no_set_errors (f ∷ fs) = refl

one_set : (f : ℕ) (q : SetResult) (rest : List (ℕ × SetResult)) → set_errors ((f, q) ∷ rest) ≡ set_errors ((f, q) ∷ []) ++ set_errors rest
one_set f Unknown rest = refl
one_set f (Faulty e) rest = refl
one_set f (Gives es clashes) rest = ap (λ (xs : List (ℕ × ℕ)). xs ++ set_errors rest) (sym (append-nil (map (λ (s : List ℕ). (52, f)) clashes)))

pub set_error_next : (fs : List ℕ) (i j : ℕ) → j ≡ suc i → (f : ℕ) → slice_get fs i ≡ Some f → (q : SetResult) (qs : List SetResult) (now new all : List (ℕ × ℕ)) → new ≡ now ++ set_errors ((f, q) ∷ []) → now ++ set_errors (zip (drop i fs) (q ∷ qs)) ≡ all →
    new ++ set_errors (zip (drop j fs) qs) ≡ all
set_error_next fs i j next f at q qs now new all one so =
    (λ k. one k ++ set_errors (zip (drop (next k) fs) qs))
    ∙ (append_assoc now (set_errors ((f, q) ∷ [])) (set_errors (zip (drop (suc i) fs) qs))
    ∙ (ap (λ (xs : List (ℕ × ℕ)). now ++ xs) (sym (one_set f q (zip (drop (suc i) fs) qs)) ∙ ap (λ (gs : List ℕ). set_errors (zip gs (q ∷ qs))) (sym (dropped fs i at))) ∙ so))
  where
    dropped : (gs : List ℕ) (i : ℕ) → slice_get gs i ≡ Some f → drop i gs ≡ f ∷ drop (suc i) gs
    dropped [] i h = absurd cc
    dropped (x ∷ gs) zero h = ap (λ (y : ℕ). y ∷ gs) (same_Some x f h)
    dropped (x ∷ gs) (suc i) h = dropped gs i h

-- the latest clash is told, and the others are left
pub clash_error : (form : ℕ) (ss rest : List (List ℕ)) (s : List ℕ) (old new more : List (ℕ × ℕ)) → ss ≡ rest ++ s ∷ [] → new ≡ old ++ (52, form) ∷ [] → old ++ map (λ (t : List ℕ). (52, form)) (reverse ss) ≡ more →
    new ++ map (λ (t : List ℕ). (52, form)) (reverse rest) ≡ more
clash_error form ss rest s old new more is one so =
    ap (λ (xs : List (ℕ × ℕ)). xs ++ map (λ (t : List ℕ). (52, form)) (reverse rest)) one
    ∙ (append_assoc old ((52, form) ∷ []) (map (λ (t : List ℕ). (52, form)) (reverse rest))
    ∙ (ap (λ (ts : List (List ℕ)). old ++ map (λ (t : List ℕ). (52, form)) ts) (sym (ap reverse is ∙ reverse-append rest (s ∷ []))) ∙ so))
