-- Atoms by the numbers of their texts.
use Rattle.std.proofs.Common.{◌≡◌, ℕ, Bool, true, false, List, slice_get, Option, Some, None, refl, sym, ap, ◌∙◌, subst, eq-eqb}
use Rattle.std.specs.Prelude.{nat_eq}
use Rattle.std.specs.Str.{bytes_eq}
use Rattle.std.specs.Option.{option_map}
use Rattle.std.proofs.lemmas.Bool.{eqb-true}
use Rattle.std.proofs.lemmas.Option.{same_Some, slice_get_within}
use Rattle.scheme_model.specs.declared.Occ.{Occ}
use Rattle.scheme_model.specs.Trees.{Atom, Numeral, Quoted, Character, Boolean, Bytes, Tree, name, atom}
use Rattle.scheme_model.specs.Matching.{same_atom, same_truth}
use Rattle.scheme_model.specs.Ident.{Ident as Identifier}
use Rattle.syntax_tree.specs.Names.{Names, AreToldApart}
use Rattle.syntax_tree.specs.Standing.{leaf_tree}
use Rattle.syntax_tree.specs.declared.trees.nodes.Leaf.{Leaf}
use Rattle.syntax_tree.specs.declared.trees.nodes.Leaf.TheVariants as code
use Rattle.syntax_tree.specs.contracts.trees.nodes.LeafPartialEq.TheImpl.{eq-value}
use Rattle.syntax_tree.proofs.TestLaws.{bool_same}
use Rattle.syntax_tree.proofs.InternLaws.{bytes_told, bytes_itself}

-- symbols are one where their numbers are
text_by_number : (symbols : List (List ℕ)) → AreToldApart symbols → (k l : ℕ) (s t : List ℕ) → slice_get symbols k ≡ Some s → slice_get symbols l ≡ Some t → nat_eq k l ≡ bytes_eq s t
text_by_number symbols apart k l s t p q =
    bool_same (nat_eq k l) (bytes_eq s t)
    (λ h. let e = eqb-true k l h in
    let same : s ≡ t = same_Some s t (sym p ∙ ap (slice_get symbols) e ∙ q) in
    subst (λ (x : List ℕ). bytes_eq s x ≡ true) same (bytes_itself s))
    (λ h. eq-eqb k l (apart k l (slice_get_within symbols k s p) (p ∙ ap Some (bytes_told s t h) ∙ sym q)))

-- a tree of an atom
abbrev leaf : Atom → Option Occ → Tree Identifier
leaf a o = atom a o

-- the text of an atom
text_of : (f : List ℕ → Atom) (x : Option (List ℕ)) (a : Atom) (o q : Option Occ) → option_map (λ (s : List ℕ). leaf (f s) o) x ≡ Some (atom a q) → (s : List ℕ) × (x ≡ Some s) × (f s ≡ a)
text_of f None a o q h = absurd cc
text_of f (Some s) a o q h = let e : f s ≡ a = cc in (s, refl, e)

no_atom : (x : Option Identifier) (a : Atom) (o q : Option Occ) → option_map (λ (i : Identifier). name i o) x ≡ Some (atom a q) → ⊥
no_atom None a o q h = absurd cc
no_atom (Some i) a o q h = absurd cc

just : (a b : Atom) (o q : Option Occ) → Some (leaf a o) ≡ Some (leaf b q) → a ≡ b
just a b o q h = cc

truths : (a b : Bool) → eq-value.it (code.Bool a) (code.Bool b) ≡ same_truth a b
truths true true = refl
truths true false = refl
truths false true = refl
truths false false = refl

-- leaves are one where their atoms are equal
module _ (names : Names) (apart : AreToldApart names.symbols) where
  pub leaf_same : (x y : Leaf) (a b : Atom) (o p q r : Option Occ) → leaf_tree names x o ≡ Some (atom a p) → leaf_tree names y q ≡ Some (atom b r) → eq-value.it x y ≡ same_atom a b
  leaf_same (code.Name i) y a b o p q r h g = absurd (no_atom (slice_get names.idents i) a o p h)
  leaf_same (code.Numeral k) (code.Name j) a b o p q r h g = absurd (no_atom (slice_get names.idents j) b q r g)
  leaf_same (code.Numeral k) (code.Numeral l) a b o p q r h g = let m = text_of Numeral (slice_get names.symbols k) a o p h in let n = text_of Numeral (slice_get names.symbols l) b q r g in text_by_number names.symbols apart k l m.0 n.0 m.1 n.1 ∙ (λ i. same_atom (m.2 i) (n.2 i))
  leaf_same (code.Numeral k) (code.Quoted l) a b o p q r h g = let m = text_of Numeral (slice_get names.symbols k) a o p h in let n = text_of Quoted (slice_get names.symbols l) b q r g in (λ i. same_atom (m.2 i) (n.2 i))
  leaf_same (code.Numeral k) (code.Char d) a b o p q r h g = let m = text_of Numeral (slice_get names.symbols k) a o p h in let n = just (Character d) b q r g in (λ i. same_atom (m.2 i) (n i))
  leaf_same (code.Numeral k) (code.Bool e) a b o p q r h g = let m = text_of Numeral (slice_get names.symbols k) a o p h in let n = just (Boolean e) b q r g in (λ i. same_atom (m.2 i) (n i))
  leaf_same (code.Numeral k) (code.Bytes l) a b o p q r h g = let m = text_of Numeral (slice_get names.symbols k) a o p h in let n = text_of Bytes (slice_get names.symbols l) b q r g in (λ i. same_atom (m.2 i) (n.2 i))
  leaf_same (code.Quoted k) (code.Name j) a b o p q r h g = absurd (no_atom (slice_get names.idents j) b q r g)
  leaf_same (code.Quoted k) (code.Numeral l) a b o p q r h g = let m = text_of Quoted (slice_get names.symbols k) a o p h in let n = text_of Numeral (slice_get names.symbols l) b q r g in (λ i. same_atom (m.2 i) (n.2 i))
  leaf_same (code.Quoted k) (code.Quoted l) a b o p q r h g = let m = text_of Quoted (slice_get names.symbols k) a o p h in let n = text_of Quoted (slice_get names.symbols l) b q r g in text_by_number names.symbols apart k l m.0 n.0 m.1 n.1 ∙ (λ i. same_atom (m.2 i) (n.2 i))
  leaf_same (code.Quoted k) (code.Char d) a b o p q r h g = let m = text_of Quoted (slice_get names.symbols k) a o p h in let n = just (Character d) b q r g in (λ i. same_atom (m.2 i) (n i))
  leaf_same (code.Quoted k) (code.Bool e) a b o p q r h g = let m = text_of Quoted (slice_get names.symbols k) a o p h in let n = just (Boolean e) b q r g in (λ i. same_atom (m.2 i) (n i))
  leaf_same (code.Quoted k) (code.Bytes l) a b o p q r h g = let m = text_of Quoted (slice_get names.symbols k) a o p h in let n = text_of Bytes (slice_get names.symbols l) b q r g in (λ i. same_atom (m.2 i) (n.2 i))
  leaf_same (code.Char c) (code.Name j) a b o p q r h g = absurd (no_atom (slice_get names.idents j) b q r g)
  leaf_same (code.Char c) (code.Numeral l) a b o p q r h g = let m = just (Character c) a o p h in let n = text_of Numeral (slice_get names.symbols l) b q r g in (λ i. same_atom (m i) (n.2 i))
  leaf_same (code.Char c) (code.Quoted l) a b o p q r h g = let m = just (Character c) a o p h in let n = text_of Quoted (slice_get names.symbols l) b q r g in (λ i. same_atom (m i) (n.2 i))
  leaf_same (code.Char c) (code.Char d) a b o p q r h g = let m = just (Character c) a o p h in let n = just (Character d) b q r g in (λ i. same_atom (m i) (n i))
  leaf_same (code.Char c) (code.Bool e) a b o p q r h g = let m = just (Character c) a o p h in let n = just (Boolean e) b q r g in (λ i. same_atom (m i) (n i))
  leaf_same (code.Char c) (code.Bytes l) a b o p q r h g = let m = just (Character c) a o p h in let n = text_of Bytes (slice_get names.symbols l) b q r g in (λ i. same_atom (m i) (n.2 i))
  leaf_same (code.Bool b1) (code.Name j) a b o p q r h g = absurd (no_atom (slice_get names.idents j) b q r g)
  leaf_same (code.Bool b1) (code.Numeral l) a b o p q r h g = let m = just (Boolean b1) a o p h in let n = text_of Numeral (slice_get names.symbols l) b q r g in (λ i. same_atom (m i) (n.2 i))
  leaf_same (code.Bool b1) (code.Quoted l) a b o p q r h g = let m = just (Boolean b1) a o p h in let n = text_of Quoted (slice_get names.symbols l) b q r g in (λ i. same_atom (m i) (n.2 i))
  leaf_same (code.Bool b1) (code.Char d) a b o p q r h g = let m = just (Boolean b1) a o p h in let n = just (Character d) b q r g in (λ i. same_atom (m i) (n i))
  leaf_same (code.Bool b1) (code.Bool e) a b o p q r h g = let m = just (Boolean b1) a o p h in let n = just (Boolean e) b q r g in truths b1 e ∙ (λ i. same_atom (m i) (n i))
  leaf_same (code.Bool b1) (code.Bytes l) a b o p q r h g = let m = just (Boolean b1) a o p h in let n = text_of Bytes (slice_get names.symbols l) b q r g in (λ i. same_atom (m i) (n.2 i))
  leaf_same (code.Bytes k) (code.Name j) a b o p q r h g = absurd (no_atom (slice_get names.idents j) b q r g)
  leaf_same (code.Bytes k) (code.Numeral l) a b o p q r h g = let m = text_of Bytes (slice_get names.symbols k) a o p h in let n = text_of Numeral (slice_get names.symbols l) b q r g in (λ i. same_atom (m.2 i) (n.2 i))
  leaf_same (code.Bytes k) (code.Quoted l) a b o p q r h g = let m = text_of Bytes (slice_get names.symbols k) a o p h in let n = text_of Quoted (slice_get names.symbols l) b q r g in (λ i. same_atom (m.2 i) (n.2 i))
  leaf_same (code.Bytes k) (code.Char d) a b o p q r h g = let m = text_of Bytes (slice_get names.symbols k) a o p h in let n = just (Character d) b q r g in (λ i. same_atom (m.2 i) (n i))
  leaf_same (code.Bytes k) (code.Bool e) a b o p q r h g = let m = text_of Bytes (slice_get names.symbols k) a o p h in let n = just (Boolean e) b q r g in (λ i. same_atom (m.2 i) (n i))
  leaf_same (code.Bytes k) (code.Bytes l) a b o p q r h g = let m = text_of Bytes (slice_get names.symbols k) a o p h in let n = text_of Bytes (slice_get names.symbols l) b q r g in text_by_number names.symbols apart k l m.0 n.0 m.1 n.1 ∙ (λ i. same_atom (m.2 i) (n.2 i))
