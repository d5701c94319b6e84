-- A search through the notes that ask an identifier finds what a search through all notes finds that asks for it.
use Rattle.std.proofs.Common.{◌≡◌, ℕ, zero, suc, ◌+◌, ◌<◌, ◌≤◌, List, [], ◌∷◌, ◌++◌, append_assoc, length, get_or, Bool, true, false, Option, Some, None, refl, sym, ap, ◌∙◌, subst, arith}
use Rattle.std.specs.Prelude.{◌&&◌, ◌||◌, slice_get, if◌then◌else◌}
use Rattle.std.specs.List.{list_any}
use Rattle.std.proofs.lemmas.List.{length-append}
use Rattle.scheme_model.specs.Ident.{Ident as Identifier}
use Rattle.syntax_tree.specs.Names.{Names}
use Rattle.syntax_tree.specs.Macros.{IsIdent}
use Rattle.syntax_tree.proofs.Places.{get_next}
use Rattle.unit_scopes.specs.declared.asked.Note.{Note}
use Rattle.unit_scopes.specs.declared.asked.Asked.{Asked}
use Rattle.unit_scopes.specs.Asks.{is_inside_at, is_inside_one, idents_of, asks, asked_by, asked_from, numbers_in, AskedStands}

abbrev pub tested : (Note → Bool) → Option Note → Bool
tested test None = false
tested test (Some note) = test note

-- some note with one of these numbers passes a test
abbrev pub any_numbered : (Note → Bool) → List Note → List ℕ → Bool
any_numbered test notes [] = false
any_numbered test notes (k ∷ ks) = tested test (slice_get notes k) || any_numbered test notes ks

-- all these numbers are below one
abbrev pub AreBelow : ℕ → List ℕ → Type 0
AreBelow n [] = Unit {0}
AreBelow n (k ∷ ks) = (k < n) × AreBelow n ks

pub below_at : (n : ℕ) (ks : List ℕ) (i d : ℕ) → AreBelow n ks → i < length ks → get_or ks i d < n
below_at n [] i d h l = absurd (omega arith)
below_at n (k ∷ ks) zero d h l = h.0
below_at n (k ∷ ks) (suc i) d h l = below_at n ks i d h.1 (omega arith)

below_both : (n : ℕ) (xs ys : List ℕ) → AreBelow n xs → AreBelow n ys → AreBelow n (xs ++ ys)
below_both n [] ys h g = g
below_both n (x ∷ xs) ys h g = (h.0, below_both n xs ys h.1 g)

or_group : (a b c : Bool) → ((a || b) || c) ≡ (a || (b || c))
or_group true b c = refl
or_group false b c = refl

once_or : (t c : Bool) → (t || (c && t)) ≡ t
once_or true c = refl
once_or false true = refl
once_or false false = refl

module _ (names : Names) (x : Identifier) where
  by_below : (k n : ℕ) (ms : List ℕ) → k < n → AreBelow n (asked_by names x k ms)
  by_below k n [] h = tt
  by_below k n (m ∷ ms) h = go (is_inside_at names x m) (by_below k n ms h)
    where
      go : (b : Bool) → AreBelow n (asked_by names x k ms) → AreBelow n (if b then k ∷ asked_by names x k ms else asked_by names x k ms)
      go true g = (h, g)
      go false g = g

  from_below : (k n : ℕ) (notes : List Note) → k + length notes ≤ n → AreBelow n (asked_from names x k notes)
  from_below k n [] h = tt
  from_below k n (note ∷ notes) h = below_both n (asked_by names x k (idents_of note)) (asked_from names x (suc k) notes) (by_below k n (idents_of note) (omega arith)) (from_below (suc k) n notes (omega arith))

  module _ (test : Note → Bool) (all : List Note) where
    any_both : (xs ys : List ℕ) → any_numbered test all (xs ++ ys) ≡ (any_numbered test all xs || any_numbered test all ys)
    any_both [] ys = refl
    any_both (k ∷ xs) ys = ap (λ (b : Bool). tested test (slice_get all k) || b) (any_both xs ys) ∙ sym (or_group (tested test (slice_get all k)) (any_numbered test all xs) (any_numbered test all ys))

    any_by : (k : ℕ) (note : Note) → slice_get all k ≡ Some note → (ms : List ℕ) → any_numbered test all (asked_by names x k ms) ≡ (is_inside_one names x ms && test note)
    any_by k note at [] = refl
    any_by k note at (m ∷ ms) = go (is_inside_at names x m) (any_by k note at ms)
      where
        go : (b : Bool) → any_numbered test all (asked_by names x k ms) ≡ (is_inside_one names x ms && test note) →
            any_numbered test all (if b then k ∷ asked_by names x k ms else asked_by names x k ms) ≡ ((b || is_inside_one names x ms) && test note)
        go true h = (λ j. tested test (at j) || h j) ∙ once_or (test note) (is_inside_one names x ms)
        go false h = h

    any_from : (before rest : List Note) → all ≡ before ++ rest → any_numbered test all (asked_from names x (length before) rest) ≡ list_any (λ note. asks names x note && test note) rest
    any_from before [] e = refl
    any_from before (note ∷ rest) e =
        any_both (asked_by names x (length before) (idents_of note)) (asked_from names x (suc (length before)) rest)
        ∙ ap (λ (b : Bool). b || any_numbered test all (asked_from names x (suc (length before)) rest)) (any_by (length before) note (ap (λ (l : List Note). slice_get l (length before)) e ∙ get_next before rest note) (idents_of note))
        ∙ ap (λ (b : Bool). (asks names x note && test note) || b)
        (ap (λ (k : ℕ). any_numbered test all (asked_from names x k rest)) (let g : suc (length before) ≡ length (before ++ note ∷ []) = omega (arith, length-append before (note ∷ [])) in g)
        ∙ any_from (before ++ note ∷ []) rest (e ∙ sym (append_assoc before (note ∷ []) rest)))

-- the numbers of the notes that ask an identifier are those of notes
pub asked_within : (names : Names) (a : Asked) → AskedStands names a → (n : ℕ) (x : Identifier) → IsIdent names n x → AreBelow (length a.notes.items) (numbers_in a n)
asked_within names a h n x is = subst (AreBelow (length a.notes.items)) (sym (h.numbers n x is)) (from_below names x 0 (length a.notes.items) a.notes.items (omega arith))

-- some of them passes a test where some note of all asks the identifier and passes it
pub any_asked : (names : Names) (a : Asked) → AskedStands names a → (n : ℕ) (x : Identifier) → IsIdent names n x → (test : Note → Bool) →
    any_numbered test a.notes.items (numbers_in a n) ≡ list_any (λ note. asks names x note && test note) a.notes.items
any_asked names a h n x is test = ap (any_numbered test a.notes.items) (h.numbers n x is) ∙ any_from names x test a.notes.items [] a.notes.items refl
