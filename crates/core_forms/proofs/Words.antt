-- Leaves that are identifiers and texts.
use Rattle.std.proofs.Common.{◌≡◌, ℕ, List, Option, Some, None, Err, refl, sym, ap, subst}
use Rattle.std.proofs.lemmas.Option.{same_Some}
use Rattle.std.specs.Prelude.{slice_get}
use Rattle.std.specs.Option.{option_map}
use Rattle.scheme_model.specs.declared.Occ.{Occ}
use Rattle.scheme_model.specs.Trees.{Atom, Numeral, Quoted, Character, Boolean, Bytes, Tree, name, atom}
use Rattle.scheme_model.specs.ExpansionFaults.{BadForm}
use Rattle.scheme_model.specs.Shapes.{name_of}
use Rattle.scheme_model.specs.Ident.{Ident as Identifier}
use Rattle.syntax_tree.specs.Names.{Names}
use Rattle.syntax_tree.specs.Standing.{leaf_tree}
use Rattle.syntax_tree.specs.declared.trees.nodes.Leaf.{Leaf}
use Rattle.syntax_tree.specs.declared.trees.nodes.Leaf.TheVariants as code

-- the leaf of an identifier
pub leaf_name : (names : Names) (n : ℕ) (o : Option Occ) (t : Tree Identifier) → leaf_tree names (code.Name n) o ≡ Some t → (i : Identifier) × (t ≡ name i o) × (slice_get names.idents n ≡ Some i)
leaf_name names n o t h = step (slice_get names.idents n) h
  where
    step : (s : Option Identifier) → option_map (λ (j : Identifier). name j o) s ≡ Some t → (i : Identifier) × (t ≡ name i o) × (s ≡ Some i)
    step None g = absurd cc
    step (Some i) g = (i, sym (same_Some (name i o) t g), refl)

-- the leaf of a text
abbrev pub text_leaf : Option Occ → List ℕ → Tree Identifier
text_leaf o s = atom (Quoted s) o

pub leaf_text : (names : Names) (n : ℕ) (o : Option Occ) (a : Atom) → leaf_tree names (code.Quoted n) o ≡ Some (atom a o) → (s : List ℕ) × (a ≡ Quoted s) × (slice_get names.symbols n ≡ Some s)
leaf_text names n o a h = step (slice_get names.symbols n) h
  where
    step : (x : Option (List ℕ)) → option_map (text_leaf o) x ≡ Some (atom a o) → (s : List ℕ) × (a ≡ Quoted s) × (x ≡ Some s)
    step None g = absurd cc
    step (Some s) g = let same = same_Some (text_leaf o s) (atom a o) g in (s, cc, refl)

-- the leaves that are no identifier
abbrev pub IsNoName : Leaf → Type 0
IsNoName (code.Name n) = ⊥
IsNoName (code.Numeral n) = Unit {0}
IsNoName (code.Quoted n) = Unit {0}
IsNoName (code.Char n) = Unit {0}
IsNoName (code.Bool n) = Unit {0}
IsNoName (code.Bytes n) = Unit {0}

kept_text : (x : Option (List ℕ)) (f : List ℕ → Atom) (o : Option Occ) (t : Tree Identifier) → option_map (λ (s : List ℕ). atom (f s) o) x ≡ Some t → name_of t ≡ Err BadForm
kept_text None f o t h = absurd cc
kept_text (Some s) f o t h = ap name_of (sym (same_Some (atom (f s) o) t h))

no_name : (names : Names) (leaf : Leaf) (o : Option Occ) (t : Tree Identifier) → IsNoName leaf → leaf_tree names leaf o ≡ Some t → name_of t ≡ Err BadForm
no_name names (code.Name n) o t h e = absurd h
no_name names (code.Numeral n) o t h e = kept_text (slice_get names.symbols n) Numeral o t e
no_name names (code.Quoted n) o t h e = kept_text (slice_get names.symbols n) Quoted o t e
no_name names (code.Char n) o t h e = ap name_of (sym (same_Some (atom (Character n) o) t e))
no_name names (code.Bool n) o t h e = ap name_of (sym (same_Some (atom (Boolean n) o) t e))
no_name names (code.Bytes n) o t h e = kept_text (slice_get names.symbols n) Bytes o t e

pub no_name_of : (names : Names) (leaf d : Leaf) (o : Option Occ) (t : Tree Identifier) → leaf ≡ d → IsNoName d → leaf_tree names leaf o ≡ Some t → name_of t ≡ Err BadForm
no_name_of names leaf d o t e h g = no_name names leaf o t (subst IsNoName (sym e) h) g
