-- No two open documents have one uri.
use Rattle.std.proofs.Common.{◌≡◌, ℕ, zero, suc, List, [], ◌∷◌, map, Bool, true, false, ◌&&◌, T, Some, Ordering, Less, Equal, Greater, is_lt, is_eq, refl, sym, ap, ◌∙◌, subst, nat_cmp, slice_get}
use Rattle.std.specs.Cmp.Lexicographic.{slice_cmp}
use Rattle.std.specs.FinMap.{entries, entries_sorted}
use Rattle.std.specs.FinMap.Entries.{below_all, is_sorted}
use Rattle.std.proofs.lemmas.Map.Text.{is_eq-slice_cmp}
use Rattle.std.proofs.lemmas.Slice.Eq.{bytes_eq-Decides}
use Rattle.document_store.specs.Texts.{Document, Texts}
use Rattle.program_differences.specs.Listed.{AreDistinct}

left : (a b : Bool) → T (a && b) → a ≡ true
left true b h = refl
left false b h = absurd h

right : (a b : Bool) → T (a && b) → T b
right true b h = h
right false b h = absurd h

not_both : (o : Ordering) → is_eq o ≡ true → is_lt o ≡ true → ⊥
not_both Less h k = absurd cc
not_both Equal h k = absurd cc
not_both Greater h k = absurd cc

not_below : (s : List ℕ) → is_lt (slice_cmp nat_cmp s s) ≡ true → ⊥
not_below s h = not_both (slice_cmp nat_cmp s s) (is_eq-slice_cmp s s ∙ (bytes_eq-Decides s s).1 refl) h

below_at : (uri other : List ℕ) (ds : List (List ℕ × Document)) (n : ℕ) → T (below_all (slice_cmp nat_cmp) uri ds) → slice_get (map (λ (d : List ℕ × Document). d.0) ds) n ≡ Some other → is_lt (slice_cmp nat_cmp uri other) ≡ true
below_at uri other [] n h at = absurd cc
below_at uri other (d ∷ ds) zero h at =
    let same : d.0 ≡ other = cc in ap (λ (s : List ℕ). is_lt (slice_cmp nat_cmp uri s)) (sym same) ∙ left (is_lt (slice_cmp nat_cmp uri d.0)) (below_all (slice_cmp nat_cmp) uri ds) h
below_at uri other (d ∷ ds) (suc n) h at = below_at uri other ds n (right (is_lt (slice_cmp nat_cmp uri d.0)) (below_all (slice_cmp nat_cmp) uri ds) h) at

never : (uri : List ℕ) (d : List ℕ × Document) (ds : List (List ℕ × Document)) (n : ℕ) → T (below_all (slice_cmp nat_cmp) d.0 ds) → d.0 ≡ uri → slice_get (map (λ (d : List ℕ × Document). d.0) ds) n ≡ Some uri → ⊥
never uri d ds n h e at = not_below uri (subst (λ (s : List ℕ). is_lt (slice_cmp nat_cmp s uri) ≡ true) e (below_at d.0 uri ds n h at))

uris_apart : (ds : List (List ℕ × Document)) → T (is_sorted (slice_cmp nat_cmp) ds) → AreDistinct (map (λ (d : List ℕ × Document). d.0) ds)
uris_apart [] h m n uri a b = absurd cc
uris_apart (d ∷ ds) h zero zero uri a b = refl
uris_apart (d ∷ ds) h zero (suc n) uri a b =
    let same : d.0 ≡ uri = cc in absurd (never uri d ds n (sorted_head h) same b)
  where
    sorted_head : T (below_all (slice_cmp nat_cmp) d.0 ds && is_sorted (slice_cmp nat_cmp) ds) → T (below_all (slice_cmp nat_cmp) d.0 ds)
    sorted_head k = subst T (sym (left (below_all (slice_cmp nat_cmp) d.0 ds) (is_sorted (slice_cmp nat_cmp) ds) k)) tt
uris_apart (d ∷ ds) h (suc m) zero uri a b =
    let same : d.0 ≡ uri = cc in absurd (never uri d ds m (sorted_head h) same a)
  where
    sorted_head : T (below_all (slice_cmp nat_cmp) d.0 ds && is_sorted (slice_cmp nat_cmp) ds) → T (below_all (slice_cmp nat_cmp) d.0 ds)
    sorted_head k = subst T (sym (left (below_all (slice_cmp nat_cmp) d.0 ds) (is_sorted (slice_cmp nat_cmp) ds) k)) tt
uris_apart (d ∷ ds) h (suc m) (suc n) uri a b = ap suc (uris_apart ds (right (below_all (slice_cmp nat_cmp) d.0 ds) (is_sorted (slice_cmp nat_cmp) ds) h) m n uri a b)

pub uris_distinct : (texts : Texts) → AreDistinct (map (λ (d : List ℕ × Document). d.0) (entries texts))
uris_distinct texts = uris_apart (entries texts) (entries_sorted texts)
