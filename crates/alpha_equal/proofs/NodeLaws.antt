-- The nodes of lists, with and without an escape.
use Rattle.std.proofs.Common.{◌≡◌, List, [], ◌∷◌, ◌++◌, Bool, true, false, Option, Some, None, refl, sym, ap, ◌∙◌}
use Rattle.std.specs.Prelude.{is_some, if◌then◌else◌}
use Rattle.std.proofs.lemmas.List.{append-nil}
use Rattle.scheme_model.specs.declared.Occ.{Occ}
use Rattle.scheme_model.specs.Trees.{Tree, name, atom, list, vector, Trees, no_trees, tree, Tail, proper, dotted}
use Rattle.scheme_model.specs.RulesShape.{nowhere, is_dots}
use Rattle.scheme_model.specs.Building.{is_escape}
use Rattle.scheme_model.specs.Leaves.{if_escape}
use Rattle.scheme_model.specs.Matching.{behind}
use Rattle.scheme_model.specs.Ident.{Ident as Identifier}
use Rattle.rename_model.specs.Walks.{TreeNode, Escape, has_tail, list_nodes, nodes_in, nodes_among, nodes_behind, nodes_escaped}
use Rattle.syntax_tree.specs.Looks.{EndStands}
use Rattle.syntax_tree.specs.declared.trees.Work.{Work}
use Rattle.syntax_tree.specs.declared.trees.nodes.Tree as number

pub no_dots : (t : Tree Identifier) → is_dots nowhere t ≡ false
no_dots (name i o) = refl
no_dots (atom a o) = refl
no_dots (list ts tail o) = refl
no_dots (vector ts o) = refl

-- nothing is chosen where the test fails
pub no_choice : {A : Type 0} (a : A) (b : Bool) → b ≡ false → is_some (if b then Some a else None) ≡ false
no_choice a true e = absurd cc
no_choice a false e = refl

pub no_escape : (ts : Trees Identifier) (tail : Tail Identifier) → is_escape nowhere ts tail ≡ false
no_escape no_trees tail = refl
no_escape (tree t no_trees) tail = refl
no_escape (tree t (tree u no_trees)) proper = no_choice u (is_dots nowhere t) (no_dots t)
no_escape (tree t (tree u no_trees)) (dotted v) = refl
no_escape (tree t (tree u (tree v vs))) tail = refl

pub escaped : (dots : Identifier → Bool) (ts : Trees Identifier) (tail : Tail Identifier) (o : Option Occ) → is_escape dots ts tail ≡ true →
    Escape ∷ (nodes_among nowhere (behind 1 ts) ++ nodes_behind nowhere tail) ≡ nodes_in dots (list ts tail o)
escaped dots no_trees tail o h = absurd cc
escaped dots (tree t no_trees) tail o h = absurd cc
escaped dots (tree t (tree u no_trees)) proper o h =
    let inside : (nodes_in nowhere u ++ []) ++ [] ≡ nodes_in nowhere u = append-nil (nodes_in nowhere u ++ []) ∙ append-nil (nodes_in nowhere u) in
    ap (λ (q : List (TreeNode Identifier)). Escape ∷ q) inside
    ∙ sym (ap (λ (b : Bool). if_escape b (Escape ∷ nodes_escaped (tree t (tree u no_trees))) (list_nodes (tree t (tree u no_trees)) proper (nodes_among dots (tree t (tree u no_trees)) ++ nodes_behind dots proper))) h)
escaped dots (tree t (tree u no_trees)) (dotted v) o h = absurd cc
escaped dots (tree t (tree u (tree v vs))) tail o h = absurd cc

pub plain : (dots : Identifier → Bool) (ts : Trees Identifier) (tail : Tail Identifier) (o : Option Occ) → is_escape dots ts tail ≡ false →
    list_nodes ts tail (nodes_among dots ts ++ nodes_behind dots tail) ≡ nodes_in dots (list ts tail o)
plain dots ts tail o h = sym (ap (λ (b : Bool). if_escape b (Escape ∷ nodes_escaped ts) (list_nodes ts tail (nodes_among dots ts ++ nodes_behind dots tail))) h)

pub end_told : (work : Work) (end : Option number.Tree) (tail : Tail Identifier) → EndStands work end tail → is_some end ≡ has_tail tail
end_told work None proper h = refl
end_told work None (dotted t) h = absurd h
end_told work (Some n) proper h = absurd h
end_told work (Some n) (dotted t) h = refl
