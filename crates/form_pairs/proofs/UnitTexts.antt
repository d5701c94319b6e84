-- Units and forms as they are paired, one after another.
use Rattle.std.proofs.Common.{◌≡◌, ◌≢◌, ℕ, zero, suc, ◌+◌, ◌-◌, ◌<◌, ◌≤◌, List, [], ◌∷◌, ◌++◌, map, Bool, true, false, cond, ◌&&◌, ◌||◌, length, get_or, slice_get, drop, Option, Some, None, refl, sym, ap, ◌∙◌, subst, arith}
use Rattle.std.specs.Prelude.{reverse}
use Rattle.std.specs.Borrow.{Bor}
use Rattle.std.specs.List.{list_any}
use Rattle.std.specs.Option.{option_map}
use Rattle.std.specs.Str.{bytes_eq}
use Rattle.std.proofs.lemmas.List.{append-nil, drop-map, map_push, reverse-append}
use Rattle.std.proofs.Math.ListN.{drop_of_length-le}
use Rattle.std.proofs.lemmas.List.Folds.{list_any-append}
use Rattle.scheme_model.specs.Trees.{Tree}
use Rattle.scheme_model.specs.Order.{is_some}
use Rattle.scheme_model.specs.declared.Home.{Home}
use Rattle.scheme_model.specs.Requirements.{LibraryName, same_library}
use Rattle.scheme_model.specs.Declarations.{home_of}
use Rattle.scheme_tokens.specs.LibraryNames.{library_text, IsProper}
use Rattle.scheme_tokens.proofs.EveryName.{text_of, text_tells, text_of-proper}
use Rattle.unit_sources.proofs.NamedLaws.{texts_same}
use Rattle.unit_sources.specs.UnitsRead.{form_of, forms_of}
use Rattle.unit_sources.specs.declared.units.UnitForm.{UnitForm}
use Rattle.carried_forms.specs.Alike.{same_option, same_list, same_tree}
use Rattle.form_pairs.specs.Fronts.{front_of, is_included, runs}
use Rattle.carried_forms.specs.Paired.{FormText, UnitText, is_same_at_home, common_front, in_step, by_ends, form_pairs, pair_of, with_forms, pairs_from}
use Rattle.carried_forms.specs.Worked.{form_text, form_texts}
use Rattle.form_pairs.specs.Trees.{tree_as}
use Rattle.form_pairs.specs.Units.{form_as, first_of, IsNameOf, IsUnitText, AreUnitTexts, uri_in, forms_in, texts_at, form_at}
use Rattle.form_pairs.specs.declared.units.UnitText as code
use Rattle.form_pairs.proofs.FrontLaws.{tree_in, same_front}

-- ---- forms

-- the first token is the same whatever the numbers
first_same : (unit number : ℕ) (f : UnitForm) → (home_of unit number (form_of f)).first ≡ first_of f
first_same unit number f = go f.home
  where
    go : (h : Option Home) → (home_of unit number (record (form_of f) { home = h })).first ≡ (home_of 0 0 (record (form_of f) { home = h })).first
    go None = refl
    go (Some h) = refl

module _ (uri_of : ℕ → List ℕ) (unit : ℕ) where
  abbrev pub text_at : (number : ℕ) → UnitForm → FormText
  text_at number f = form_text uri_of (home_of unit number (form_of f)) (form_of f)

  pub many_texts : (n : ℕ) (fs : List UnitForm) → length (form_texts uri_of unit n (forms_of fs)) ≡ length fs
  many_texts n [] = refl
  many_texts n (f ∷ fs) = ap suc (many_texts (suc n) fs)

  -- the texts behind so many, of which the next is that of the form there
  pub next_text : (n : ℕ) (fs : List UnitForm) (k : ℕ) (f : UnitForm) → k < length fs → f ≡ get_or fs k f →
      drop k (form_texts uri_of unit n (forms_of fs)) ≡ text_at (n + k) f ∷ drop (k + 1) (form_texts uri_of unit n (forms_of fs))
  next_text n [] k f lt at = absurd (omega (arith, lt))
  next_text n (x ∷ fs) zero f lt at = let same : n ≡ n + 0 = omega arith in λ j. text_at (same j) (sym at j) ∷ form_texts uri_of unit (suc n) (forms_of fs)
  next_text n (x ∷ fs) (suc k) f lt at =
      let same : suc n + k ≡ n + suc k = omega arith in
      let on : suc k + 1 ≡ suc (k + 1) = omega arith in
      next_text (suc n) fs k f (omega (arith, lt)) at
      ∙ (λ j. text_at (same j) f ∷ drop (k + 1) (form_texts uri_of unit (suc n) (forms_of fs)))
      ∙ ap (λ (m : ℕ). text_at (n + suc k) f ∷ drop m (form_texts uri_of unit n (forms_of (x ∷ fs)))) (sym on)

  tree_same : (n : ℕ) (f : UnitForm) → (text_at n f).tree ≡ form_as f
  tree_same n f = ap (λ (first : ℕ). tree_as first f.datum) (first_same unit n f)

  pub trees_are : (n : ℕ) (fs : List UnitForm) → map tree_in (form_texts uri_of unit n (forms_of fs)) ≡ map form_as fs
  trees_are n [] = refl
  trees_are n (f ∷ fs) = λ j. tree_same n f j ∷ trees_are (suc n) fs j

  pub included_are : (n : ℕ) (fs : List UnitForm) → list_any (λ (f : FormText). f.included) (form_texts uri_of unit n (forms_of fs)) ≡ list_any is_included fs
  included_are n [] = refl
  included_are n (f ∷ fs) = ap (λ (b : Bool). is_included f || b) (included_are (suc n) fs)

-- ---- all at home

module _ (uri_of other : ℕ → List ℕ) (unit with : ℕ) (fs gs : List UnitForm) where
  abbrev left : List FormText
  left = form_texts uri_of unit 0 (forms_of fs)

  abbrev right : List FormText
  right = form_texts other with 0 (forms_of gs)

  pub other_lengths : length fs ≢ length gs → false ≡ same_list is_same_at_home left right
  other_lengths differ = sym (go left right (λ same. differ (sym (many_texts uri_of unit 0 fs) ∙ same ∙ many_texts other with 0 gs)))
    where
      both_false : (b c : Bool) → c ≡ false → b && c ≡ false
      both_false true c h = h
      both_false false c h = refl

      go : (xs ys : List FormText) → length xs ≢ length ys → same_list is_same_at_home xs ys ≡ false
      go [] [] h = absurd (h refl)
      go [] (y ∷ ys) h = refl
      go (x ∷ xs) [] h = refl
      go (x ∷ xs) (y ∷ ys) h = both_false (is_same_at_home x y) (same_list is_same_at_home xs ys) (go xs ys (λ e. h (ap suc e)))

  module _ (k : ℕ) (f g : UnitForm) (first : k < length fs) (second : k < length gs) (there : f ≡ get_or fs k f) (too : g ≡ get_or gs k g) (b : Bool)
      (same : b ≡ is_same_at_home (form_text uri_of (home_of unit k (form_of f)) (form_of f)) (form_text other (home_of with k (form_of g)) (form_of g)))
      (so_far : same_list is_same_at_home left right ≡ same_list is_same_at_home (drop k left) (drop k right)) where
    step : same_list is_same_at_home (drop k left) (drop k right) ≡ b && same_list is_same_at_home (drop (k + 1) left) (drop (k + 1) right)
    step =
        (λ j. same_list is_same_at_home (next_text uri_of unit 0 fs k f first there j) (next_text other with 0 gs k g second too j))
        ∙ ap (λ (n : ℕ). is_same_at_home (text_at uri_of unit n f) (text_at other with n g) && same_list is_same_at_home (drop (k + 1) left) (drop (k + 1) right)) from_none
        ∙ ap (λ (c : Bool). c && same_list is_same_at_home (drop (k + 1) left) (drop (k + 1) right)) (sym same)
      where
        from_none : 0 + k ≡ k
        from_none = omega arith

    pub at_home_so_far : b ≡ true → same_list is_same_at_home left right ≡ same_list is_same_at_home (drop (k + 1) left) (drop (k + 1) right)
    at_home_so_far is = so_far ∙ step ∙ ap (λ (c : Bool). c && same_list is_same_at_home (drop (k + 1) left) (drop (k + 1) right)) is

    pub not_at_home : b ≡ false → false ≡ same_list is_same_at_home left right
    not_at_home is = sym (so_far ∙ step ∙ ap (λ (c : Bool). c && same_list is_same_at_home (drop (k + 1) left) (drop (k + 1) right)) is)

  pub all_at_home : (k : ℕ) → length fs ≡ length gs → k ≡ length fs → same_list is_same_at_home left right ≡ same_list is_same_at_home (drop k left) (drop k right) → true ≡ same_list is_same_at_home left right
  all_at_home k same here so_far =
      sym (so_far ∙ λ j. same_list is_same_at_home (drop_of_length-le left {i = k} (omega (arith, here, many_texts uri_of unit 0 fs)) j) (drop_of_length-le right {i = k} (omega (arith, here, same, many_texts other with 0 gs)) j))

-- ---- the runs

map_reverse : {X Y : Type 0} (f : X → Y) (xs : List X) → map f (reverse xs) ≡ reverse (map f xs)
map_reverse f [] = refl
map_reverse f (x ∷ xs) = ap (map f) (reverse-append (x ∷ []) xs) ∙ map_push f (reverse xs) x ∙ ap (λ l. l ++ f x ∷ []) (map_reverse f xs) ∙ sym (reverse-append (f x ∷ []) (map f xs))

-- the trees behind so many, from the end on
from_end_trees : (xs : List FormText) (fs : List UnitForm) → map tree_in xs ≡ map form_as fs → (n : ℕ) → map tree_in (reverse (drop n xs)) ≡ map form_as (reverse (drop n fs))
from_end_trees xs fs same n =
    map_reverse tree_in (drop n xs) ∙ ap reverse (sym (drop-map tree_in n xs) ∙ ap (drop n) same ∙ drop-map form_as n fs) ∙ sym (map_reverse form_as (drop n fs))

module _ (uri_of other : ℕ → List ℕ) (unit with : ℕ) (fs gs : List UnitForm) (mine yours : Bool) (first : mine ≡ list_any is_included fs) (second : yours ≡ list_any is_included gs) where
  abbrev left_texts : List FormText
  left_texts = form_texts uri_of unit 0 (forms_of fs)

  abbrev right_texts : List FormText
  right_texts = form_texts other with 0 (forms_of gs)

  some_included : list_any (λ (f : FormText). f.included) (left_texts ++ right_texts) ≡ (mine || yours)
  some_included =
      list_any-append (λ (f : FormText). f.included) left_texts right_texts
      ∙ (λ j. (included_are uri_of unit 0 fs ∙ sym first) j || (included_are other with 0 gs ∙ sym second) j)

  abbrev by_cases : Bool → Option (List (ℕ × ℕ))
  by_cases c = cond c (cond (same_list is_same_at_home left_texts right_texts) (Some (in_step 0 0 (length left_texts))) None) (Some (by_ends left_texts right_texts))

  pub by_ends_found : (front end : ℕ) → (mine || yours) ≡ false → front ≡ front_of fs gs → end ≡ front_of (reverse (drop front fs)) (reverse (drop front gs)) →
      Some (runs (length fs) (length gs) front end) ≡ form_pairs left_texts right_texts
  by_ends_found front end none f e =
      sym (ap by_cases (some_included ∙ none) ∙ ap Some ((λ j. in_step 0 0 (fronts j) ++ in_step (many_texts uri_of unit 0 fs j - ends j) (many_texts other with 0 gs j - ends j) (ends j))))
    where
      fronts : common_front left_texts right_texts ≡ front
      fronts = same_front left_texts right_texts fs gs (trees_are uri_of unit 0 fs) (trees_are other with 0 gs) ∙ sym f

      ends : common_front (reverse (drop (common_front left_texts right_texts) left_texts)) (reverse (drop (common_front left_texts right_texts) right_texts)) ≡ end
      ends =
          (λ j. common_front (reverse (drop (fronts j) left_texts)) (reverse (drop (fronts j) right_texts)))
          ∙ same_front (reverse (drop front left_texts)) (reverse (drop front right_texts)) (reverse (drop front fs)) (reverse (drop front gs))
          (from_end_trees left_texts fs (trees_are uri_of unit 0 fs) front) (from_end_trees right_texts gs (trees_are other with 0 gs) front)
          ∙ sym e

  pub all_found : (same : Bool) → (mine || yours) ≡ true → same ≡ same_list is_same_at_home left_texts right_texts → same ≡ true → Some (runs (length fs) (length gs) (length fs) 0) ≡ form_pairs left_texts right_texts
  all_found same some is so =
      sym (ap by_cases (some_included ∙ some) ∙ ap (λ (c : Bool). cond c (Some (in_step 0 0 (length left_texts))) None) (sym is ∙ so) ∙ ap (λ (n : ℕ). Some (in_step 0 0 n)) (many_texts uri_of unit 0 fs)
      ∙ ap Some (sym (append-nil (in_step 0 0 (length fs)))))

  pub none_found : (same : Bool) → (mine || yours) ≡ true → same ≡ same_list is_same_at_home left_texts right_texts → same ≡ false → None ≡ form_pairs left_texts right_texts
  none_found same some is so = sym (ap by_cases (some_included ∙ some) ∙ ap (λ (c : Bool). cond c (Some (in_step 0 0 (length left_texts))) None) (sym is ∙ so))

-- ---- units

named : (r : Bool) (s t : List ℕ) → r ≡ bytes_eq s t → (a b : Bor (List ℕ)) → s ≡ a.now → t ≡ b.now → (m n : Option LibraryName) → IsNameOf (Some a) m → IsNameOf (Some b) n → r ≡ same_option same_library m n
named r s t same a b there too None n h k = absurd h
named r s t same a b there too (Some m) None h k = absurd k
named r s t same a b there too (Some m) (Some n) h k =
    same ∙ (λ j. bytes_eq (first j) (second j)) ∙ texts_same text_of text_tells m n
  where
    first : s ≡ text_of m
    first = there ∙ h.0 ∙ sym (text_of-proper m h.1)

    second : t ≡ text_of n
    second = too ∙ k.0 ∙ sym (text_of-proper n k.1)

-- names are the same where their texts are
pub names_alike : (r : Bool) (s t : List ℕ) → r ≡ bytes_eq s t → (x y : Option (Bor (List ℕ))) (a b : Bor (List ℕ)) → x ≡ Some a → y ≡ Some b → s ≡ a.now → t ≡ b.now → (m n : Option LibraryName) → IsNameOf x m → IsNameOf y n → r ≡ same_option same_library m n
names_alike r s t same x y a b is too_is there too m n h k = named r s t same a b there too m n (subst (λ (z : Option (Bor (List ℕ))). IsNameOf z m) is h) (subst (λ (z : Option (Bor (List ℕ))). IsNameOf z n) too_is k)

-- the unit there, and those from it on
pub record UnitThere (uri_of : ℕ → List ℕ) (n k : ℕ) (c : code.UnitText) (us : List UnitText) : Type 0 where
  pub unit : UnitText
  pub there : slice_get us k ≡ Some unit
  pub next : drop k us ≡ unit ∷ drop (k + 1) us
  pub is : IsUnitText uri_of (n + k) c unit

pub unit_there : (uri_of : ℕ → List ℕ) (n : ℕ) (cs : List code.UnitText) (us : List UnitText) → AreUnitTexts uri_of n cs us → (k : ℕ) (c : code.UnitText) → k < length cs → c ≡ get_or cs k c → UnitThere uri_of n k c us
unit_there uri_of n [] us are k c lt at = absurd (omega (arith, lt))
unit_there uri_of n (x ∷ cs) [] are k c lt at = absurd are
unit_there uri_of n (x ∷ cs) (u ∷ us) are zero c lt at =
    let same : n ≡ n + 0 = omega arith in
    record { unit = u; there = refl; next = refl; is = subst (λ (m : ℕ). IsUnitText uri_of m c u) same (subst (λ (y : code.UnitText). IsUnitText uri_of n y u) (sym at) are.0) }
unit_there uri_of n (x ∷ cs) (u ∷ us) are (suc k) c lt at =
    let more = unit_there uri_of (suc n) cs us are.1 k c (omega (arith, lt)) at in
    let same : suc n + k ≡ n + suc k = omega arith in
    let on : suc k + 1 ≡ suc (k + 1) = omega arith in
    record { unit = more.unit; there = more.there; next = more.next ∙ ap (λ (m : ℕ). more.unit ∷ drop m (u ∷ us)) (sym on); is = subst (λ (m : ℕ). IsUnitText uri_of m c more.unit) same more.is }

pub as_many_units : (uri_of : ℕ → List ℕ) (n : ℕ) (cs : List code.UnitText) (us : List UnitText) → AreUnitTexts uri_of n cs us → length us ≡ length cs
as_many_units uri_of n [] [] are = refl
as_many_units uri_of n [] (u ∷ us) are = absurd are
as_many_units uri_of n (c ∷ cs) [] are = absurd are
as_many_units uri_of n (c ∷ cs) (u ∷ us) are = ap suc (as_many_units uri_of (suc n) cs us are.1)
