-- Tables of new numbers, and the way back from them.
use Rattle.std.proofs.Common.{◌≡◌, ◌≢◌, ℕ, ◌+◌, ◌<◌, ◌≤◌, List, [], length, get_or, set, slice_get, Option, Some, sym, ap, ◌∙◌, subst, inl, inr, arith, Vec}
use Rattle.std.specs.declared.alloc.Global.{Global}
use Rattle.std.specs.Option.{option_map_or}
use Rattle.std.proofs.lemmas.Bool.{cases_eq, cases_lt}
use Rattle.std.proofs.lemmas.List.{get_or_past, get_or-set_same, get_or-set_other}
use Rattle.std.proofs.lemmas.Option.{slice_get_past, slice_get-get_or, get_or_from_slice_get}
use Rattle.moves.specs.Numbers.{moved, forms_at, IsPermutation}

-- ---- a table of new numbers

pub moved_at : (ns : List ℕ) (n v : ℕ) → slice_get ns n ≡ Some v → moved ns n ≡ v
moved_at ns n v h = get_or_from_slice_get ns n v n h

pub moved_past : (ns : List ℕ) (n : ℕ) → length ns ≤ n → moved ns n ≡ n
moved_past ns n h = get_or_past ns n n h

-- a value that is read there
pub moved_read : (ns : List ℕ) (n d : ℕ) → n < length ns → moved ns n ≡ get_or ns n d
moved_read ns n d h = sym (get_or_from_slice_get ns n (get_or ns n n) d (slice_get-get_or ns n n h))

pub stays_within : (ns : List ℕ) → IsPermutation ns → (n : ℕ) → n < length ns → moved ns n < length ns
stays_within ns p n lt =
    elim (cases_lt (moved ns n) (length ns)) [
      | inl below ↦ below
      | inr le ↦
          let same : moved ns n ≡ n = p.apart (moved ns n) n (moved_past ns (moved ns n) le) in
          absurd (omega (arith, same, le, lt))
    ]

-- numbers so far lead back
abbrev pub LeadsBack : List ℕ → List ℕ → ℕ → Type 0
LeadsBack old ns count = (n : ℕ) → n < count → moved old (moved ns n) ≡ n

pub one_more : (old ns : List ℕ) (n : ℕ) → IsPermutation ns → length old ≡ length ns → n < length ns → LeadsBack old ns n → LeadsBack (set old (moved ns n) n) ns (n + 1)
one_more old ns n p len within back m lt =
    elim (cases_eq m n) [
      | inl e ↦
          let here : moved (set old (moved ns n) n) (moved ns n) ≡ n = get_or-set_same old (moved ns n) n (moved ns n) (omega (arith, stays_within ns p n within, len)) in
          ap (λ (q : ℕ). moved (set old (moved ns n) n) (moved ns q)) e ∙ here ∙ sym e
      | inr ne ↦
          let other : moved ns m ≢ moved ns n = λ same. ne (p.apart m n same) in
          get_or-set_other old (moved ns n) (moved ns m) n (moved ns m) other ∙ back m (omega (arith, lt, ne))
    ]

pub all_lead_back : (old ns : List ℕ) → length old ≡ length ns → LeadsBack old ns (length ns) → (n : ℕ) → moved old (moved ns n) ≡ n
all_lead_back old ns len back n =
    elim (cases_lt n (length ns)) [
      | inl lt ↦ back n lt
      | inr le ↦ ap (moved old) (moved_past ns n le) ∙ moved_past old n (omega (arith, le, len))
    ]

-- ---- tables of each unit's forms

pub forms_here : (forms : List (Vec ℕ Global)) (u : ℕ) (v : Vec ℕ Global) → slice_get forms u ≡ Some v → forms_at forms u ≡ v.items
forms_here forms u v h = ap (λ (o : Option (Vec ℕ Global)). option_map_or (λ (x : Vec ℕ Global). x.items) o []) h

pub forms_past : (forms : List (Vec ℕ Global)) (u : ℕ) → length forms ≤ u → forms_at forms u ≡ []
forms_past forms u h = ap (λ (o : Option (Vec ℕ Global)). option_map_or (λ (x : Vec ℕ Global). x.items) o []) (slice_get_past forms u h)

-- forms lead back where their unit leads back, or has no new numbers
pub forms_lead_back : (units units' : List ℕ) (forms forms' : List (Vec ℕ Global)) →
    length units' ≡ length units → length forms ≤ length units → length forms' ≡ length units' →
    IsPermutation units → ((u : ℕ) → moved units' (moved units u) ≡ u) →
    ((v : ℕ) → v < length units' → (f : ℕ) → moved (forms_at forms' v) (moved (forms_at forms (moved units' v)) f) ≡ f) →
    (u f : ℕ) → moved (forms_at forms' (moved units u)) (moved (forms_at forms u) f) ≡ f
forms_lead_back units units' forms forms' len within more perm back each u f =
    elim (cases_lt u (length units)) [
      | inl lt ↦
          let v = moved units u in
          let there = each v (omega (arith, stays_within units perm u lt, len)) f in
          subst (λ (w : ℕ). moved (forms_at forms' v) (moved (forms_at forms w) f) ≡ f) (back u) there
      | inr le ↦
          let none : forms_at forms u ≡ [] = forms_past forms u (omega (arith, le, within)) in
          let none' : forms_at forms' (moved units u) ≡ [] = ap (forms_at forms') (moved_past units u le) ∙ forms_past forms' u (omega (arith, le, len, more)) in
          ap (λ (l : List ℕ). moved l (moved (forms_at forms u) f)) none' ∙ ap (λ (l : List ℕ). moved [] (moved l f)) none
    ]
