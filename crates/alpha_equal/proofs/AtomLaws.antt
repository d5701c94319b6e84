-- Atoms by the leaves that stand for them.
use Rattle.std.proofs.Common.{◌≡◌, ℕ, List, Option, Some, None, refl, sym, ap, ◌∙◌}
use Rattle.std.specs.Prelude.{slice_get, Bool}
use Rattle.std.specs.Option.{option_map}
use Rattle.std.proofs.lemmas.Option.{same_Some}
use Rattle.scheme_model.specs.declared.Occ.{Occ}
use Rattle.scheme_model.specs.Trees.{Atom, Character, Boolean, Tree, name, atom, list, vector}
use Rattle.scheme_model.specs.Ident.{Ident as Identifier}
use Rattle.syntax_tree.specs.Names.{Names}
use Rattle.syntax_tree.specs.Meant.{IsSymbol}

abbrev an_atom : Atom → Option Occ → Tree Identifier
an_atom a o = atom a o

abbrev atom_in : Atom → Tree Identifier → Atom
atom_in d (name i o) = d
atom_in d (atom a o) = a
atom_in d (list ts tail o) = d
atom_in d (vector ts o) = d

pub atom_told : (a b : Atom) (o : Option Occ) → Some (an_atom a o) ≡ Some (an_atom b o) → b ≡ a
atom_told a b o e = sym (ap (atom_in a) (same_Some (an_atom a o) (an_atom b o) e))

pub text_told : (names : Names) (n : ℕ) (make : List ℕ → Atom) (a : Atom) (o : Option Occ) → option_map (λ (s : List ℕ). an_atom (make s) o) (slice_get names.symbols n) ≡ Some (an_atom a o) →
    (s : List ℕ) × IsSymbol names n s × (a ≡ make s)
text_told names n make a o h = go (slice_get names.symbols n) refl h
  where
    go : (q : Option (List ℕ)) → slice_get names.symbols n ≡ q → option_map (λ (s : List ℕ). an_atom (make s) o) q ≡ Some (an_atom a o) → (s : List ℕ) × IsSymbol names n s × (a ≡ make s)
    go None e k = absurd cc
    go (Some s) e k = (s, e, atom_told (make s) a o k)

pub no_name : (q : Option Identifier) (a : Atom) (o : Option Occ) → option_map (λ (j : Identifier). name j o) q ≡ Some (an_atom a o) → ⊥
no_name None a o e = absurd cc
no_name (Some j) a o e = let same = same_Some (name j o) (an_atom a o) e in absurd cc
