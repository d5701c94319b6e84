-- The notes that speak of an identifier, by their numbers: one of them is refused where one of these numbers is that of a note that is.
use Rattle.std.proofs.Common.{◌≡◌, ℕ, zero, suc, ◌+◌, ◌⊎◌, inl, inr, List, [], ◌∷◌, ◌++◌, reverse, Bool, true, false, ◌&&◌, ◌||◌, cond, Option, Some, None, refl, sym, ap, ◌∙◌, subst, arith}
use Rattle.std.specs.Prelude.{slice_get}
use Rattle.std.proofs.lemmas.Grind.{reverse_onto}
use Rattle.std.proofs.lemmas.Option.{same_Some}
use Rattle.scheme_model.specs.Ident.{Ident as Identifier}
use Rattle.scheme_model.specs.Order.{Note, LookedUp, Compared}
use Rattle.scheme_model.specs.Substitution.{any}
use Rattle.scheme_model.specs.ScopedExpansion.{Frames, FramedIdent}
use Rattle.syntax_tree.specs.Names.{Names}
use Rattle.syntax_tree.specs.declared.trees.Work.{Work}
use Rattle.core_tree.specs.Names.{AllMatch}
use Rattle.unit_scopes.specs.Asks.{is_inside, is_inside_any, is_inside_at, idents_of, asked_by, asked_from}
use Rattle.unit_scopes.specs.Searched.{speaks_of}
use Rattle.unit_scopes.specs.Kept.{PlaceFor, NoteFor}
use Rattle.unit_scopes.specs.declared.asked.Asking.{Asking}
use Rattle.unit_scopes.specs.declared.asked.Note as code
use Rattle.unit_scopes.specs.declared.asked.Note.TheVariants as notes

-- ---- one of several

or_none : (a : Bool) → (a || false) ≡ a
or_none true = refl
or_none false = refl

or_all : (a b c : Bool) → ((a || b) || c) ≡ (a || (b || c))
or_all true b c = refl
or_all false b c = refl

or_turned : (a b : Bool) → (a || b) ≡ (b || a)
or_turned true true = refl
or_turned true false = refl
or_turned false true = refl
or_turned false false = refl

pub any_join : {A : Type 0} (f : A → Bool) (xs ys : List A) → any f (xs ++ ys) ≡ (any f xs || any f ys)
any_join f [] ys = refl
any_join f (x ∷ xs) ys = ap (λ (b : Bool). f x || b) (any_join f xs ys) ∙ sym (or_all (f x) (any f xs) (any f ys))

any_turned : {A : Type 0} (f : A → Bool) (xs : List A) → any f (reverse xs) ≡ any f xs
any_turned f [] = refl
any_turned f (x ∷ xs) =
    ap (any f) (reverse_onto xs x [])
    ∙ (any_join f (reverse xs) (x ∷ [])
    ∙ ((λ j. any_turned f xs j || or_none (f x) j)
    ∙ or_turned (any f xs) (f x)))

-- ---- what stands at a number

pub at_matched : {X Y : Type 0} (P : X → Y → Type 0) (xs : List X) (ys : List Y) (k : ℕ) (x : X) → AllMatch P xs ys → slice_get xs k ≡ Some x → (y : Y) × (slice_get ys k ≡ Some y) × P x y
at_matched P [] ys k x h at = absurd cc
at_matched P (z ∷ xs) [] k x h at = absurd h
at_matched {X} P (z ∷ xs) (y ∷ ys) zero x h at = (y, refl, subst (λ (w : X). P w y) (same_Some z x at) h.0)
at_matched P (z ∷ xs) (y ∷ ys) (suc k) x h at = at_matched P xs ys k x h.1 at

-- a note's number is one of those that there are
abbrev NumbersNote : {X : Type 0} → List X → (from : ℕ) → ℕ → Type 0
NumbersNote {X} xs from n = (k : ℕ) × (n ≡ from + k) × ((x : X) × (slice_get xs k ≡ Some x))

got_joined : (xs ys : List ℕ) (at n : ℕ) → slice_get (xs ++ ys) at ≡ Some n → ((k : ℕ) × (slice_get xs k ≡ Some n)) ⊎ ((k : ℕ) × (slice_get ys k ≡ Some n))
got_joined [] ys at n h = inr (at, h)
got_joined (x ∷ xs) ys zero n h = inl (0, h)
got_joined (x ∷ xs) ys (suc at) n h = elim (got_joined xs ys at n h) [ inl here ↦ inl (suc here.0, here.1) | inr there ↦ inr there ]

-- whether the note that is there is told so
abbrev pub told_if : (Note FramedIdent → Bool) → Option (Note FramedIdent) → Bool
told_if g None = false
told_if g (Some q) = g q

-- whether the note of a number is told so
abbrev pub told_at : (Note FramedIdent → Bool) → List (Note FramedIdent) → ℕ → Bool
told_at g qs n = told_if g (slice_get qs n)

-- ---- of the notes from one on

module _ (names : Names) (x : Identifier) where
  by_within : (k n : ℕ) (ns : List ℕ) (at : ℕ) → slice_get (asked_by names x k ns) at ≡ Some n → n ≡ k
  by_within k n [] at h = absurd cc
  by_within k n (m ∷ ms) at h = by (is_inside_at names x m) at h (λ i. by_within k n ms i)
    where
      by : (b : Bool) (at : ℕ) → slice_get (cond b (k ∷ asked_by names x k ms) (asked_by names x k ms)) at ≡ Some n → ((i : ℕ) → slice_get (asked_by names x k ms) i ≡ Some n → n ≡ k) → n ≡ k
      by true zero h rest = sym (same_Some k n h)
      by true (suc at) h rest = rest at h
      by false at h rest = rest at h

  from_within : (k n : ℕ) (ns : List code.Note) (at : ℕ) → slice_get (asked_from names x k ns) at ≡ Some n → NumbersNote ns k n
  from_within k n [] at h = absurd cc
  from_within k n (note ∷ ns) at h = elim (got_joined (asked_by names x k (idents_of note)) (asked_from names x (suc k) ns) at n h) [
    | inl here ↦ (0, (let e : n ≡ k = by_within k n (idents_of note) here.0 here.1 in omega arith), (note, refl))
    | inr there ↦ let p = from_within (suc k) n ns there.0 there.1 in (suc p.0, (let e : n ≡ suc k + p.0 = p.1 in omega arith), p.2)
  ]

  -- a number of the list is that of a note
  pub note_there : (n : ℕ) (ns : List code.Note) (at : ℕ) → slice_get (asked_from names x 0 ns) at ≡ Some n → (note : code.Note) × (slice_get ns n ≡ Some note)
  note_there n ns at h =
      let p = from_within 0 n ns at h in
      let e : p.0 ≡ n = omega (arith, p.1) in
      (p.2.0, ap (slice_get ns) (sym e) ∙ p.2.1)

module _ (work : Work) (ls : List Frames) (x : Identifier) where
  speaks : (a : Asking) (p : FramedIdent) → PlaceFor work ls a p → is_inside_at work.symbols x a.ident ≡ is_inside x p.ident
  speaks a p h = ap (is_inside_any x) h.1

  asked_once : (f : ℕ → Bool) (k : ℕ) (b : Bool) → any f (cond b (k ∷ []) []) ≡ (b && f k)
  asked_once f k true = or_none (f k)
  asked_once f k false = refl

  asked_twice : (f : ℕ → Bool) (k : ℕ) (b c : Bool) → any f (cond b (k ∷ cond c (k ∷ []) []) (cond c (k ∷ []) [])) ≡ ((b || c) && f k)
  asked_twice f k true true = by (f k)
    where
      by : (a : Bool) → (a || (a || false)) ≡ a
      by true = refl
      by false = refl
  asked_twice f k true false = or_none (f k)
  asked_twice f k false true = or_none (f k)
  asked_twice f k false false = refl

  of_note : (f : ℕ → Bool) (k : ℕ) (note : code.Note) (q : Note FramedIdent) → NoteFor work ls note q → any f (asked_by work.symbols x k (idents_of note)) ≡ (speaks_of x q && f k)
  of_note f k (notes.LookedUp a h w) (LookedUp p head keyword) is =
      asked_once f k (is_inside_at work.symbols x a.ident) ∙ ap (λ (b : Bool). b && f k) (speaks a p is.0)
  of_note f k (notes.LookedUp a h w) (Compared p q held) is = absurd is
  of_note f k (notes.Compared l a h) (LookedUp p head keyword) is = absurd is
  of_note f k (notes.Compared l a h) (Compared p q held) is =
      asked_twice f k (is_inside_at work.symbols x l.ident) (is_inside_at work.symbols x a.ident)
      ∙ (λ j. (speaks l p is.0 j || speaks a q is.1 j) && f k)

  -- by numbers, where the function tells at a number what the other tells of the note
  by_numbers : (f : ℕ → Bool) (g : Note FramedIdent → Bool) (k : ℕ) (ns : List code.Note) (qs : List (Note FramedIdent)) → AllMatch (NoteFor work ls) ns qs → ((n : ℕ) (q : Note FramedIdent) → slice_get qs n ≡ Some q → f (k + n) ≡ g q) →
      any f (asked_from work.symbols x k ns) ≡ any (λ q. speaks_of x q && g q) qs
  by_numbers f g k [] [] h same = refl
  by_numbers f g k [] (q ∷ qs) h same = absurd h
  by_numbers f g k (note ∷ ns) [] h same = absurd h
  by_numbers f g k (note ∷ ns) (q ∷ qs) h same =
      let here : f k ≡ g q = ap f (let e : k ≡ k + 0 = omega arith in e) ∙ same 0 q refl in
      let rest = by_numbers f g (suc k) ns qs h.1 (λ n r at. ap f (let e : suc k + n ≡ k + suc n = omega arith in e) ∙ same (suc n) r at) in
      any_join f (asked_by work.symbols x k (idents_of note)) (asked_from work.symbols x (suc k) ns)
      ∙ (λ j. (of_note f k note q h.0 ∙ ap (λ (b : Bool). speaks_of x q && b) here) j || rest j)

  pub among_numbers : (g : Note FramedIdent → Bool) (ns : List code.Note) (qs : List (Note FramedIdent)) → AllMatch (NoteFor work ls) ns (reverse qs) → any (told_at g (reverse qs)) (asked_from work.symbols x 0 ns) ≡ any (λ q. speaks_of x q && g q) qs
  among_numbers g ns qs h =
      by_numbers (told_at g (reverse qs)) g 0 ns (reverse qs) h (λ n q at. ap (λ (k : ℕ). told_at g (reverse qs) k) (let e : 0 + n ≡ n = omega arith in e) ∙ ap (told_if g) at)
      ∙ any_turned (λ q. speaks_of x q && g q) qs

pub any_here : {A : Type 0} (f : A → Bool) (xs : List A) (k : ℕ) (x : A) → slice_get xs k ≡ Some x → f x ≡ true → any f xs ≡ true
any_here f [] k x at h = absurd cc
any_here f (y ∷ ys) zero x at h = ap (λ (b : Bool). b || any f ys) (ap f (same_Some y x at) ∙ h)
any_here f (y ∷ ys) (suc k) x at h = ap (λ (b : Bool). f y || b) (any_here f ys k x at h) ∙ or_turned (f y) true

pub any_last : (f : ℕ → Bool) (xs : List ℕ) (n : ℕ) → any f xs ≡ false → f n ≡ false → any f (xs ++ n ∷ []) ≡ false
any_last f xs n before last = any_join f xs (n ∷ []) ∙ (λ j. before j || (last j || false))
