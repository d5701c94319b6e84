-- Tables that grow by what isn't in them yet, and identifiers as the definitions see them.
use Rattle.std.proofs.Common.{◌≡◌, ℕ, eq-eqb, zero, suc, Bool, true, false, cond, List, [], ◌∷◌, ◌++◌, length, slice_get, Some, refl, sym, ap, ◌∙◌, subst, inl, inr, arith}
use Rattle.std.specs.Prelude.{◌⊎◌, ◌||◌}
use Rattle.std.specs.List.{list_any}
use Rattle.std.specs.Str.{bytes_eq}
use Rattle.std.proofs.lemmas.Option.{same_Some, slice_get_within}
use Rattle.std.proofs.lemmas.Slice.Eq.{bytes_eq-Decides}
use Rattle.std.proofs.lemmas.Bool.Decides.{nat_tests}
use Rattle.scheme_model.specs.Identifiers.{Number, same_number}
use Rattle.scheme_model.specs.Trees.{Atom, Numeral, Quoted, Character, Boolean, Bytes, Tree, name, atom, list, vector, Trees, no_trees, tree, Tail, proper, dotted}
use Rattle.scheme_model.specs.Ident.{Ident as Identifier, Written, Inserted, same_ident, erase, root}
use Rattle.syntax_tree.specs.Names.{Names, AreToldApart, KeepsNames, with_new, with_ident}
use Rattle.syntax_tree.specs.Interned.{symbol_in, name_in, atom_in, interned, all_interned, tail_interned}
use Rattle.syntax_tree.proofs.Places.{none_some, get_front, get_next}
use Rattle.syntax_tree.proofs.TableSteps.{GainsAtMost}
use Rattle.syntax_tree.proofs.TestLaws.{and_true, same_number-refl}

-- ---- a thing more, where it is new

or_cases : (a b : Bool) → (a || b) ≡ true → (a ≡ true) ⊎ (b ≡ true)
or_cases true b h = inl refl
or_cases false b h = inr h

or_left : (a b : Bool) → a ≡ true → (a || b) ≡ true
or_left true b h = refl
or_left false b h = absurd cc

or_right : (a b : Bool) → b ≡ true → (a || b) ≡ true
or_right true b h = refl
or_right false b h = h

module _ {A : Type 0} (same : A → A → Bool) (tells : (x y : A) → same x y ≡ true → x ≡ y) (itself : (x : A) → same x x ≡ true) where
  there : (xs : List A) (n : ℕ) (x : A) → slice_get xs n ≡ Some x → list_any (same x) xs ≡ true
  there [] n x h = none_some x h
  there (y ∷ xs) zero x h =
      or_left (same x y) (list_any (same x) xs) (subst (λ (z : A). same x z ≡ true) (sym (same_Some y x h)) (itself x))
  there (y ∷ xs) (suc n) x h = or_right (same x y) (list_any (same x) xs) (there xs n x h)

  place : (xs : List A) (x : A) → list_any (same x) xs ≡ true → (n : ℕ) × (slice_get xs n ≡ Some x)
  place [] x h = absurd cc
  place (y ∷ xs) x h =
      elim (or_cases (same x y) (list_any (same x) xs) h) [
        | inl e ↦ (zero, ap Some (sym (tells x y e)))
        | inr e ↦ let p = place xs x e in (suc p.0, p.1)
      ]

  absent : (xs : List A) (x : A) (b : Bool) → AreToldApart (xs ++ x ∷ []) → list_any (same x) xs ≡ b → list_any (same x) xs ≡ false
  absent xs x false apart e = e
  absent xs x true apart e =
      let p = place xs x e in
      let lt = slice_get_within xs p.0 x p.1 in
      let front = get_front xs (x ∷ []) p.0 x p.1 in
      let within = slice_get_within (xs ++ x ∷ []) p.0 x front in
      let at = apart p.0 (length xs) within (front ∙ sym (get_next xs [] x)) in
      absurd (omega (arith, lt, at))

  -- the table after a call that found or added a thing
  pub with_found : (old new : List A) (n : ℕ) (x : A) → AreToldApart new → slice_get new n ≡ Some x → GainsAtMost old new x → new ≡ with_new same old x
  with_found old new n x apart at (inl e) =
      let found = there old n x (subst (λ (l : List A). slice_get l n ≡ Some x) e at) in
      e ∙ ap (λ (b : Bool). cond b old (old ++ x ∷ [])) (sym found)
  with_found old new n x apart at (inr e) =
      let none = absent old x (list_any (same x) old) (subst (λ (l : List A). AreToldApart l) e apart) refl in
      e ∙ ap (λ (b : Bool). cond b old (old ++ x ∷ [])) (sym none)

  pub with_keeps : (xs : List A) (x : A) (n : ℕ) (y : A) → slice_get xs n ≡ Some y → slice_get (with_new same xs x) n ≡ Some y
  with_keeps xs x n y h =
      elim (list_any (same x) xs) as (λ b. slice_get (cond b xs (xs ++ x ∷ [])) n ≡ Some y) [
        | true ↦ h
        | false ↦ get_front xs (x ∷ []) n y h
      ]

-- ---- one test for each table

pub bytes_told : (p q : List ℕ) → bytes_eq p q ≡ true → p ≡ q
bytes_told p q h = (bytes_eq-Decides p q).0 h

-- texts of different lengths
pub other_length : (p q : List ℕ) → (length p ≡ length q → ⊥) → false ≡ bytes_eq p q
other_length p q h = by (bytes_eq p q) refl
  where
    by : (b : Bool) → bytes_eq p q ≡ b → false ≡ b
    by false e = refl
    by true e = absurd (h (ap length (bytes_told p q e)))

pub bytes_itself : (p : List ℕ) → bytes_eq p p ≡ true
bytes_itself p = (bytes_eq-Decides p p).1 refl

number_told : (k l : Number) → same_number k l ≡ true → k ≡ l
number_told k l h =
    let unit : k.unit ≡ l.unit = grind (arith, nat_tests) in
    let form : k.form ≡ l.form = grind (arith, nat_tests) in
    let count : k.count ≡ l.count = grind (arith, nat_tests) in
    λ j. record { unit = unit j; form = form j; count = count j }

-- the same identifiers of the definitions are the same
pub ident_told : (i j : Identifier) → same_ident i j ≡ true → i ≡ j
ident_told (Written u s) (Written v t) h =
    let symbol = bytes_told s t (grind (arith, nat_tests)) in
    let unit : u ≡ v = grind (arith, nat_tests) in
    λ k. Written (unit k) (symbol k)
ident_told (Written u s) (Inserted j l) h = absurd cc
ident_told (Inserted i k) (Written v t) h = absurd cc
ident_told (Inserted i k) (Inserted j l) h =
    let p = and_true (same_number k l) (same_ident i j) h in
    let inner = ident_told i j p.1 in
    let number = number_told k l p.0 in
    λ m. Inserted (inner m) (number m)

pub ident_itself : (i : Identifier) → same_ident i i ≡ true
ident_itself (Written u s) = rw (eq-eqb u u refl, bytes_itself s) refl
ident_itself (Inserted i k) = rw (same_number-refl k, ident_itself i) refl

-- different identifiers are different names of the definitions
pub names_apart : (i j : Identifier) → root i ≡ root j → i ≡ j
names_apart i j h = sym (erase-root i) ∙ ap erase h ∙ erase-root j
  where
    erase-root : (i : Identifier) → erase (root i) ≡ i
    erase-root (Written u s) = refl
    erase-root (Inserted i k) = ap (λ (j : Identifier). Inserted j k) (erase-root i)

-- ---- the tables with the names of a tree keep what they had

keeps_on : (a b c : Names) → KeepsNames a b → KeepsNames b c → KeepsNames a c
keeps_on a b c p q = record { symbols = λ n s h. q.symbols n s (p.symbols n s h); idents = λ n i h. q.idents n i (p.idents n i h) }

keeps_itself : (names : Names) → KeepsNames names names
keeps_itself names = record { symbols = λ n s h. h; idents = λ n i h. h }

keeps_symbol : (s : List ℕ) (names : Names) → KeepsNames names (symbol_in s names)
keeps_symbol s names = record {
  symbols = λ n x h. with_keeps bytes_eq bytes_told bytes_itself names.symbols s n x h;
  idents = λ n i h. h;
}

keeps_ident : (names : Names) (i : Identifier) (n : ℕ) (j : Identifier) → slice_get names.idents n ≡ Some j → slice_get (with_ident names.idents i) n ≡ Some j
keeps_ident names i n j h = with_keeps same_ident ident_told ident_itself names.idents i n j h

keeps_name : (i : Identifier) (names : Names) → KeepsNames names (name_in i names)
keeps_name (Written u s) names = record {
  symbols = (keeps_symbol s names).symbols;
  idents = λ n j h. keeps_ident names (Written u s) n j h;
}
keeps_name (Inserted i k) names =
    let inner = keeps_name i names in
    record {
      symbols = inner.symbols;
      idents = λ n j h. keeps_ident (name_in i names) (Inserted i k) n j (inner.idents n j h);
    }

keeps_atom : (a : Atom) (names : Names) → KeepsNames names (atom_in a names)
keeps_atom (Numeral text) names = keeps_symbol text names
keeps_atom (Quoted text) names = keeps_symbol text names
keeps_atom (Character c) names = keeps_itself names
keeps_atom (Boolean b) names = keeps_itself names
keeps_atom (Bytes text) names = keeps_symbol text names

mutual
  pub interned_keeps : (t : Tree Identifier) (names : Names) → KeepsNames names (interned t names)
  interned_keeps (name i o) names = keeps_name i names
  interned_keeps (atom a o) names = keeps_atom a names
  interned_keeps (list ts tail o) names =
      keeps_on names (all_interned ts names) (tail_interned tail (all_interned ts names)) (all_interned_keeps ts names) (tail_interned_keeps tail (all_interned ts names))
  interned_keeps (vector ts o) names = all_interned_keeps ts names

  pub all_interned_keeps : (ts : Trees Identifier) (names : Names) → KeepsNames names (all_interned ts names)
  all_interned_keeps no_trees names = keeps_itself names
  all_interned_keeps (tree t ts) names =
      keeps_on names (interned t names) (all_interned ts (interned t names)) (interned_keeps t names) (all_interned_keeps ts (interned t names))

  pub tail_interned_keeps : (tail : Tail Identifier) (names : Names) → KeepsNames names (tail_interned tail names)
  tail_interned_keeps proper names = keeps_itself names
  tail_interned_keeps (dotted t) names = interned_keeps t names
