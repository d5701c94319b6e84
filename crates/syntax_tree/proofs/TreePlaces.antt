-- Where the trees of leaves stand.
use Rattle.std.proofs.Common.{◌≡◌, ℕ, List, Option, Some, None, refl, sym, ap, ◌∙◌}
use Rattle.std.specs.Prelude.{slice_get}
use Rattle.std.specs.Option.{option_map}
use Rattle.std.proofs.lemmas.Option.{same_Some}
use Rattle.scheme_model.specs.declared.Occ.{Occ}
use Rattle.scheme_model.specs.Trees.{Numeral, Quoted, Character, Boolean, Bytes, Tree, name, atom}
use Rattle.scheme_model.specs.Ident.{Ident as Identifier}
use Rattle.syntax_tree.specs.Names.{Names}
use Rattle.syntax_tree.specs.Placed.{tree_place}
use Rattle.syntax_tree.specs.Standing.{leaf_tree}
use Rattle.syntax_tree.specs.declared.trees.nodes.Leaf.{Leaf}
use Rattle.syntax_tree.specs.declared.trees.nodes.Leaf.TheVariants as code

mapped_place : {B : Type 0} (f : B → Tree Identifier) (b : Option B) (o : Option Occ) (t : Tree Identifier) → ((x : B) → tree_place (f x) ≡ o) → option_map f b ≡ Some t → o ≡ tree_place t
mapped_place f None o t h e = absurd cc
mapped_place f (Some x) o t h e = sym (h x) ∙ ap tree_place (same_Some (f x) t e)

pub leaf_place : (names : Names) (leaf : Leaf) (o : Option Occ) (t : Tree Identifier) → leaf_tree names leaf o ≡ Some t → o ≡ tree_place t
leaf_place names (code.Name i) o t e = mapped_place (λ (j : Identifier). name j o) (slice_get names.idents i) o t (λ x. refl) e
leaf_place names (code.Numeral k) o t e = mapped_place (λ (s : List ℕ). atom (Numeral s) o) (slice_get names.symbols k) o t (λ x. refl) e
leaf_place names (code.Quoted k) o t e = mapped_place (λ (s : List ℕ). atom (Quoted s) o) (slice_get names.symbols k) o t (λ x. refl) e
leaf_place names (code.Char c) o t e = ap tree_place (same_Some (atom (Character c) o) t e)
leaf_place names (code.Bool b) o t e = ap tree_place (same_Some (atom (Boolean b) o) t e)
leaf_place names (code.Bytes k) o t e = mapped_place (λ (s : List ℕ). atom (Bytes s) o) (slice_get names.symbols k) o t (λ x. refl) e
