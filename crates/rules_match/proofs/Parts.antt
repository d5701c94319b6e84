-- Rows of trees: what stands in front of a place and behind it.
use Rattle.std.proofs.Common.{◌≡◌, ℕ, zero, suc, ◌+◌, ◌-◌, ◌<◌, ◌≤◌, List, [], ◌∷◌, take, Bool, true, false, Option, Some, None, refl, sym, ap, ◌∙◌, subst, arith}
use Rattle.scheme_model.specs.Trees.{Tree, name, atom, list, vector, Trees, no_trees, tree, Tail, proper, dotted}
use Rattle.scheme_model.specs.TreeParts.{count}
use Rattle.scheme_model.specs.RulesShape.{is_dots, starts_dots}
use Rattle.scheme_model.specs.Matching.{front, behind, rest_of}
use Rattle.scheme_model.specs.Ident.{Ident as Identifier}
use Rattle.scheme_model.specs.Measures.{tail_depth, tree_size, trees_size}
use Rattle.syntax_tree.specs.Standing.{is_list}
use Rattle.syntax_tree.specs.Looks.{PartsStand, EndStands, StandsWithin, EndWithin}
use Rattle.syntax_tree.specs.Works.{StandsFor}
use Rattle.std.proofs.lemmas.Option.{same_Some}
use Rattle.syntax_tree.specs.declared.trees.Work.{Work}
use Rattle.syntax_tree.specs.declared.trees.nodes.Tree as number

behind_none : {A : Type 0} (k : ℕ) → behind {B = A} k no_trees ≡ no_trees
behind_none zero = refl
behind_none (suc k) = refl

-- behind one place and then more
pub behind_behind : {A : Type 0} (j c : ℕ) (ts : Trees A) → behind c (behind j ts) ≡ behind (j + c) ts
behind_behind zero c ts = let e : 0 + c ≡ c = omega arith in ap (λ x. behind x ts) (sym e)
behind_behind (suc j) c no_trees = behind_none c ∙ sym (behind_none (suc j + c))
behind_behind (suc j) c (tree t ts) = let e : suc j + c ≡ suc (j + c) = omega arith in behind_behind j c ts ∙ ap (λ x. behind x (tree t ts)) (sym e)

pub count_behind : {A : Type 0} (k : ℕ) (ts : Trees A) → count (behind k ts) ≡ count ts - k
count_behind zero ts = omega arith
count_behind (suc k) no_trees = omega arith
count_behind (suc k) (tree t ts) = let e = count_behind k ts in omega arith

pub front_stands : (work : Work) (k : ℕ) (ns : List number.Tree) (ts : Trees Identifier) → PartsStand work ns ts → PartsStand work (take k ns) (front k ts)
front_stands work zero ns ts h = tt
front_stands work (suc k) [] no_trees h = tt
front_stands work (suc k) [] (tree t ts) h = absurd h
front_stands work (suc k) (n ∷ ns) no_trees h = absurd h
front_stands work (suc k) (n ∷ ns) (tree t ts) h = (h.0, front_stands work k ns ts h.1)

-- an ellipsis at a place
start_there : (dots : Identifier → Bool) (us : Trees Identifier) → starts_dots dots us ≡ true → (d : Tree Identifier) × (us ≡ tree d (behind 1 us)) × (is_dots dots d ≡ true)
start_there dots no_trees h = absurd cc
start_there dots (tree d us) h = (d, refl, h)

pub dots_there : (dots : Identifier → Bool) (k : ℕ) (ps : Trees Identifier) → true ≡ starts_dots dots (behind (k + 1) ps) → (d : Tree Identifier) × (behind (k + 1) ps ≡ tree d (behind (k + 2) ps)) × (is_dots dots d ≡ true)
dots_there dots k ps h =
    let p = start_there dots (behind (k + 1) ps) (sym h) in
    let e : (k + 1) + 1 ≡ k + 2 = omega arith in
    (p.0, p.1 ∙ ap (tree p.0) (behind_behind (k + 1) 1 ps ∙ ap (λ x. behind x ps) e), p.2)

-- what is left of a list that has parts left, or no tail, is a list
pub rest_list : (ts : Trees Identifier) → is_list (rest_of ts proper) ≡ true
rest_list no_trees = refl
rest_list (tree t ts) = refl

pub rest_parts : (ts : Trees Identifier) (tail : Tail Identifier) → 0 < count ts → is_list (rest_of ts tail) ≡ true
rest_parts no_trees tail h = absurd (omega arith)
rest_parts (tree t ts) tail h = refl

-- ---- tails by number

module _ (work : Work) where
  pub end_proper : (end : Option number.Tree) (tail : Tail Identifier) → end ≡ None → EndStands work end tail → tail ≡ proper
  end_proper None proper e h = refl
  end_proper None (dotted t) e h = absurd h
  end_proper (Some n) tail e h = absurd cc

  pub end_dotted : (end : Option number.Tree) (tail : Tail Identifier) (n : number.Tree) → end ≡ Some n → EndStands work end tail → (t : Tree Identifier) × (tail ≡ dotted t) × (is_list t ≡ false) × StandsFor work n t
  end_dotted None tail n e h = absurd cc
  end_dotted (Some m) proper n e h = absurd h
  end_dotted (Some m) (dotted t) n e h = (t, refl, h.0, subst (λ x. StandsFor work x t) (same_Some m n e) h.1)

  pub tail_within : (end : Option number.Tree) (n : number.Tree) (depth : ℕ) → end ≡ Some n → EndWithin work end depth → StandsWithin work n depth
  tail_within end n depth e h =
      let p = end_dotted end h.0 n e h.1 in
      let deep : tail_depth (dotted p.0) ≤ depth = subst (λ (x : Tail Identifier). tail_depth x ≤ depth) p.1 h.2 in
      (p.0, p.3, deep)

-- ---- sizes

size_positive : (t : Tree Identifier) → 1 ≤ tree_size t
size_positive (name i o) = omega arith
size_positive (atom a o) = omega arith
size_positive (list ts tail o) = omega arith
size_positive (vector ts o) = omega arith

-- a list has no more parts than nodes
pub count_size : (ts : Trees Identifier) → count ts ≤ trees_size ts
count_size no_trees = omega arith
count_size (tree t ts) = let p = size_positive t in let q = count_size ts in omega arith
