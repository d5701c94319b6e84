-- Notes and macros are in scopes that are no newer than one: once they were put there, as one more comes, and as they are copied.
use Rattle.std.proofs.Common.{◌≡◌, ℕ, zero, suc, ◌≤◌, List, [], ◌∷◌, ◌++◌, map, Bool, true, false, cond, min, take, drop, length, slice_get, Result, Ok, Err, OnOk, OnErr, Option, Some, None, inl, inr, refl, sym, ap, ◌∙◌, subst, arith}
use Rattle.std.specs.Option.{option_map}
use Rattle.std.specs.BTreeMap.{BTreeMap, is_at, get, Updates, IsUnchanged}
use Rattle.std.specs.Map.{lookup}
use Rattle.std.proofs.lemmas.Option.{same_Some}
use Rattle.rules_match.specs.Found.{pair_cmp}
use Rattle.syntax_tree.proofs.Places.{none_some, push_cases, map_get}
use Rattle.unit_scopes.specs.Within.{newest_of, place_within, note_within, macro_within}
use Rattle.unit_scopes.specs.declared.asked.Asking.{Asking}
use Rattle.unit_scopes.specs.declared.asked.Note.{Note}
use Rattle.unit_scopes.specs.declared.asked.Note.TheVariants.{LookedUp, Compared}
use Rattle.unit_scopes.specs.declared.macros.Macro.{Macro}

-- ---- notes

pub note_fits : (last : ℕ) (note : Note) → newest_of (note_within last note) ≤ last
note_fits last (LookedUp at head keyword) = omega arith
note_fits last (Compared literal at held) = omega arith

pub notes_fit : (last : ℕ) (notes : List Note) (n : ℕ) (note : Note) → slice_get (map (note_within last) notes) n ≡ Some note → newest_of note ≤ last
notes_fit last notes n note there = let m = map_get (note_within last) notes n note there in subst (λ x. newest_of x ≤ last) m.2 (note_fits last m.0)

place_same : (last : ℕ) (at : Asking) → at.scope ≤ last → at ≡ place_within last at
place_same last at fits = let e : at.scope ≡ min at.scope last = omega (arith, fits) in λ j. record at { scope = e j }

note_same : (last : ℕ) (note : Note) → newest_of note ≤ last → note ≡ note_within last note
note_same last (LookedUp at head keyword) fits = let e = place_same last at fits in λ j. LookedUp (e j) head keyword
note_same last (Compared literal at held) fits =
    let a : literal.scope ≤ last = omega (arith, fits) in
    let b : at.scope ≤ last = omega (arith, fits) in
    let d = place_same last literal a in
    let e = place_same last at b in
    λ j. Compared (d j) (e j) held

pub notes_same : (last : ℕ) (notes : List Note) → ((n : ℕ) (note : Note) → slice_get notes n ≡ Some note → newest_of note ≤ last) → notes ≡ map (note_within last) notes
notes_same last [] fits = refl
notes_same last (x ∷ xs) fits =
    let here = note_same last x (fits 0 x refl) in
    let rest = notes_same last xs (λ n note there. fits (suc n) note there) in
    λ j. here j ∷ rest j

-- one note more
pub note_more_fits : (notes : List Note) (note : Note) (before after : ℕ) → newest_of note ≤ after → before ≤ after → ((n : ℕ) (x : Note) → slice_get notes n ≡ Some x → newest_of x ≤ before) →
    (n : ℕ) (x : Note) → slice_get (notes ++ note ∷ []) n ≡ Some x → newest_of x ≤ after
note_more_fits notes note before after fits le all n x there = elim (push_cases notes note n x there) [
  | inl old ↦ let h = all n x old in omega (arith, h, le)
  | inr last ↦ subst (λ y. newest_of y ≤ after) (sym last.1) fits
]

-- ---- macros

pub macro_fits : (last : ℕ) (o : Option Macro) (k : Macro) → option_map (macro_within last) o ≡ Some k → k.scope ≤ last
macro_fits last None k there = none_some k there
macro_fits last (Some l) k there = subst (λ (x : Macro). x.scope ≤ last) (same_Some (macro_within last l) k there) (omega arith)

pub macro_same : (last newest : ℕ) (o : Option Macro) → newest ≤ last → ((k : Macro) → o ≡ Some k → k.scope ≤ newest) → o ≡ option_map (macro_within last) o
macro_same last newest None le fits = refl
macro_same last newest (Some k) le fits =
    let h = fits k refl in
    let e : k.scope ≡ min k.scope last = omega (arith, h, le) in
    λ j. Some (record k { scope = e j })

pub macro_more_fits : (o p : Option Macro) (b : Bool) (kept : Macro) (before after : ℕ) → p ≡ cond b (Some kept) o → kept.scope ≤ after → before ≤ after → ((k : Macro) → o ≡ Some k → k.scope ≤ before) →
    (k : Macro) → p ≡ Some k → k.scope ≤ after
macro_more_fits o p true kept before after is fits le all k there = subst (λ (x : Macro). x.scope ≤ after) (same_Some kept k (sym is ∙ there)) fits
macro_more_fits o p false kept before after is fits le all k there = let h = all k (sym is ∙ there) in omega (arith, h, le)

pub macro_put_fits : {V E : Type 0} (r : Result V E) (m n : BTreeMap (ℕ × ℕ) Macro) (key : ℕ × ℕ) (kept : Macro) (before after : ℕ) → OnOk r (Updates pair_cmp m n key (Some kept)) → OnErr r (IsUnchanged m n) → kept.scope ≤ after → before ≤ after →
    ((u i : ℕ) (k : Macro) → get pair_cmp m (u, i) ≡ Some k → k.scope ≤ before) → (u i : ℕ) (k : Macro) → get pair_cmp n (u, i) ≡ Some k → k.scope ≤ after
macro_put_fits (Ok v) m n key kept before after updates same fits le all u i k there = macro_more_fits (get pair_cmp m (u, i)) (get pair_cmp n (u, i)) (is_at (pair_cmp key) (u, i)) kept before after (updates.0 (u, i)) fits le (all u i) k there
macro_put_fits (Err e) m n key kept before after updates same fits le all u i k there = let h = all u i k (sym (ap (lookup (is_at (pair_cmp (u, i)))) same) ∙ there) in omega (arith, h, le)

pub macro_gone_fits : (o p : Option Macro) (b : Bool) (newest : ℕ) → p ≡ cond b None o → ((k : Macro) → o ≡ Some k → k.scope ≤ newest) → (k : Macro) → p ≡ Some k → k.scope ≤ newest
macro_gone_fits o p true newest is all k there = none_some k (sym is ∙ there)
macro_gone_fits o p false newest is all k there = all k (sym is ∙ there)

-- ---- lists that are written over

pub whole_slice : {A : Type 0} (len : ℕ) (new old : List A) → length new ≡ length old → len ≡ length old → take len (new ++ drop (length new) old) ≡ new
whole_slice zero [] [] same all = refl
whole_slice (suc n) [] [] same all = refl
whole_slice len [] (y ∷ old) same all = absurd (omega (arith, same))
whole_slice len (x ∷ new) [] same all = absurd (omega (arith, same))
whole_slice zero (x ∷ new) (y ∷ old) same all = absurd (omega (arith, all))
whole_slice (suc n) (x ∷ new) (y ∷ old) same all = ap (λ zs. x ∷ zs) (whole_slice n new old (omega (arith, same)) (omega (arith, all)))
