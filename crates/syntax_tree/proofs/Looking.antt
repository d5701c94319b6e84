-- Rows of trees by their numbers: what stands at a place and behind it, and how deep it is.
use Rattle.std.proofs.Common.{◌≡◌, ℕ, zero, suc, ◌+◌, ◌-◌, ◌<◌, ◌≤◌, List, [], ◌∷◌, ◌++◌, length, get_or, drop, Option, Some, None, refl, sym, ap, ◌∙◌, subst, arith, add-one}
use Rattle.std.specs.Prelude.{max, is_some, Bool, true, false, if◌then◌else◌, Vec}
use Rattle.std.specs.declared.alloc.Global.{Global}
use Rattle.std.proofs.lemmas.Option.{same_Some}
use Rattle.scheme_model.specs.RulesShape.{is_dots, dots_count}
use Rattle.scheme_model.specs.declared.Occ.{Occ}
use Rattle.scheme_model.specs.Trees.{Tree, name, atom, list, vector, Trees, no_trees, tree, Tail, proper, dotted}
use Rattle.scheme_model.specs.TreeParts.{count}
use Rattle.scheme_model.specs.Matching.{behind}
use Rattle.scheme_model.specs.Ident.{Ident as Identifier}
use Rattle.scheme_model.specs.Measures.{tree_depth, trees_depth, tail_depth}
use Rattle.syntax_tree.specs.Works.{StandsFor, IsStanding, CanName, CanNameParts}
use Rattle.syntax_tree.specs.Looks.{PartsStand, EndStands, AreStanding, EndIsStanding, StandsWithin, PartsWithin, EndWithin, AllNamed, EndNamed}
use Rattle.syntax_tree.specs.declared.trees.Work.{Work}
use Rattle.syntax_tree.specs.declared.trees.nodes.Tree as number
use Rattle.syntax_tree.specs.declared.trees.nodes.Node.TheVariants as node
use Rattle.syntax_tree.specs.declared.trees.table.Region.{Region}

-- ---- depths

pub depth_positive : (t : Tree Identifier) → 1 ≤ tree_depth t
depth_positive (name i o) = omega arith
depth_positive (atom a o) = omega arith
depth_positive (list ts tail o) = omega arith
depth_positive (vector ts o) = omega arith

pub behind_depth : (k : ℕ) (ts : Trees Identifier) → trees_depth (behind k ts) ≤ trees_depth ts
behind_depth zero ts = omega arith
behind_depth (suc k) no_trees = omega arith
behind_depth (suc k) (tree t ts) = omega (arith, behind_depth k ts)

-- the parts of a row are no deeper than the row
pub split_depth : (k : ℕ) (ts : Trees Identifier) (t : Tree Identifier) (us : Trees Identifier) → behind k ts ≡ tree t us → tree_depth t ≤ trees_depth ts
split_depth k ts t us e =
    let b : trees_depth (tree t us) ≤ trees_depth ts = subst (λ (x : Trees Identifier). trees_depth x ≤ trees_depth ts) e (behind_depth k ts) in
    omega arith

pub parts_below : (ts : Trees Identifier) (tail : Tail Identifier) (d : ℕ) → 1 + max (trees_depth ts) (tail_depth tail) ≤ d → trees_depth ts ≤ d - 1
parts_below ts tail d h = omega arith

pub end_below : (ts : Trees Identifier) (tail : Tail Identifier) (d : ℕ) → 1 + max (trees_depth ts) (tail_depth tail) ≤ d → tail_depth tail ≤ d - 1
end_below ts tail d h = omega arith

-- ---- rows

module _ (work : Work) where
  pub behind_stands : (k : ℕ) (ns : List number.Tree) (ts : Trees Identifier) → PartsStand work ns ts → PartsStand work (drop k ns) (behind k ts)
  behind_stands zero ns ts h = h
  behind_stands (suc k) [] no_trees h = h
  behind_stands (suc k) [] (tree t ts) h = absurd h
  behind_stands (suc k) (n ∷ ns) no_trees h = absurd h
  behind_stands (suc k) (n ∷ ns) (tree t ts) h = behind_stands k ns ts h.1

  pub count_stands : (ns : List number.Tree) (ts : Trees Identifier) → PartsStand work ns ts → count ts ≡ length ns
  count_stands [] no_trees h = refl
  count_stands [] (tree t ts) h = absurd h
  count_stands (n ∷ ns) no_trees h = absurd h
  count_stands (n ∷ ns) (tree t ts) h = let e = count_stands ns ts h.1 in omega arith

  -- the part at a place
  pub record IsPart (ts : Trees Identifier) (k : ℕ) (n : number.Tree) : Type 0 where
    pub part : Tree Identifier
    pub stands : StandsFor work n part
    pub split : behind k ts ≡ tree part (behind (suc k) ts)

  pub part_there : (k : ℕ) (ns : List number.Tree) (ts : Trees Identifier) (d : number.Tree) → PartsStand work ns ts → k < length ns → IsPart ts k (get_or ns k d)
  part_there k [] ts d h l = absurd (omega arith)
  part_there k (m ∷ ns) no_trees d h l = absurd h
  part_there zero (m ∷ ns) (tree t ts) d h l = record { part = t; stands = h.0; split = refl }
  part_there (suc k) (m ∷ ns) (tree t ts) d h l =
      let p = part_there k ns ts d h.1 (omega arith) in record { part = p.part; stands = p.stands; split = p.split }

  -- the same with the place as the code counts it
  pub split_one : (k : ℕ) (ts : Trees Identifier) (n : number.Tree) (p : IsPart ts k n) → behind k ts ≡ tree p.part (behind (k + 1) ts)
  split_one k ts n p = p.split ∙ ap (λ (j : ℕ). tree p.part (behind j ts)) (sym (add-one k))

  pub part_standing : (k : ℕ) (ns : List number.Tree) (d : number.Tree) → AreStanding work ns → k < length ns → IsStanding work (get_or ns k d)
  part_standing k ns d h l = let p = part_there k ns h.0 d h.1 l in (p.part, p.stands)

  -- behind the last part nothing is left
  pub behind_past : (k : ℕ) (ns : List number.Tree) (ts : Trees Identifier) → PartsStand work ns ts → length ns ≤ k → behind k ts ≡ no_trees
  behind_past zero [] no_trees h l = refl
  behind_past zero [] (tree t ts) h l = absurd h
  behind_past zero (n ∷ ns) ts h l = absurd (omega arith)
  behind_past (suc k) [] no_trees h l = refl
  behind_past (suc k) [] (tree t ts) h l = absurd h
  behind_past (suc k) (n ∷ ns) no_trees h l = absurd h
  behind_past (suc k) (n ∷ ns) (tree t ts) h l = behind_past k ns ts h.1 (omega arith)

  pub part_within : (ns : List number.Tree) (d k : ℕ) (n : number.Tree) → PartsWithin work ns d → k < length ns → StandsWithin work (get_or ns k n) d
  part_within ns d k n h l =
      let p = part_there k ns h.0 n h.1 l in
      let deep = split_depth k h.0 p.part (behind (suc k) h.0) p.split in
      (p.part, p.stands, omega (arith, deep, h.2))

  pub within_positive : (n : number.Tree) (d : ℕ) → StandsWithin work n d → 1 ≤ d
  within_positive n d h = let p = depth_positive h.0 in omega (arith, h.2)

  -- ---- what is below a node

  -- a list's parts and its tail, and a vector's parts, are less deep
  pub list_parts_within : (d : ℕ) (t : Tree Identifier) (ns : List number.Tree) (ts : Trees Identifier) (tail : Tail Identifier) (o : Option Occ) → tree_depth t ≤ d → t ≡ list ts tail o →
      PartsStand work ns ts → PartsWithin work ns (d - 1)
  list_parts_within d t ns ts tail o l e h =
      let b : tree_depth (list ts tail o) ≤ d = subst (λ (x : Tree Identifier). tree_depth x ≤ d) e l in
      (ts, h, parts_below ts tail d b)

  pub end_within : (d : ℕ) (t : Tree Identifier) (end : Option number.Tree) (ts : Trees Identifier) (tail : Tail Identifier) (o : Option Occ) → tree_depth t ≤ d → t ≡ list ts tail o →
      EndStands work end tail → EndWithin work end (d - 1)
  end_within d t end ts tail o l e h =
      let b : tree_depth (list ts tail o) ≤ d = subst (λ (x : Tree Identifier). tree_depth x ≤ d) e l in
      (tail, h, end_below ts tail d b)

  pub vector_parts_within : (d : ℕ) (t : Tree Identifier) (ns : List number.Tree) (ts : Trees Identifier) (o : Option Occ) → tree_depth t ≤ d → t ≡ vector ts o →
      PartsStand work ns ts → PartsWithin work ns (d - 1)
  vector_parts_within d t ns ts o l e h =
      let b : tree_depth (vector ts o) ≤ d = subst (λ (x : Tree Identifier). tree_depth x ≤ d) e l in
      (ts, h, omega arith)

  -- ---- tails

  pub no_end : (end : Option number.Tree) (tail : Tail Identifier) → is_some end ≡ false → EndStands work end tail → tail ≡ proper
  no_end None proper e h = refl
  no_end None (dotted t) e h = absurd h
  no_end (Some n) tail e h = absurd cc

  pub some_end : (end : Option number.Tree) (tail : Tail Identifier) → is_some end ≡ true → EndStands work end tail → (t : Tree Identifier) × (tail ≡ dotted t)
  some_end None tail e h = absurd cc
  some_end (Some n) proper e h = absurd h
  some_end (Some n) (dotted t) e h = (t, refl)

  pub end_standing : (end : Option number.Tree) (n : number.Tree) → end ≡ Some n → EndIsStanding work end → IsStanding work n
  end_standing None n e h = absurd cc
  end_standing (Some m) n e h = subst (IsStanding work) (same_Some m n e) (last m h.0 h.1)
    where
      last : (m : number.Tree) (tail : Tail Identifier) → EndStands work (Some m) tail → IsStanding work m
      last m proper h = absurd h
      last m (dotted t) h = (t, h.1)

-- ---- ellipses

-- one more part, and how many ellipses there are
pub dots_more : (dots : Identifier → Bool) (us : Trees Identifier) (t : Tree Identifier) (rest : Trees Identifier) (n m : ℕ) (b : Bool) → us ≡ tree t rest → b ≡ is_dots dots t → m ≡ (if b then n + 1 else n) →
    m + dots_count dots rest ≡ n + dots_count dots us
dots_more dots us t rest n m true e h g =
    let a : dots_count dots us ≡ suc (dots_count dots rest) = ap (dots_count dots) e ∙ ap (λ (x : Bool). if x then suc (dots_count dots rest) else dots_count dots rest) (sym h) in
    omega (arith, g)
dots_more dots us t rest n m false e h g =
    let a : dots_count dots us ≡ dots_count dots rest = ap (dots_count dots) e ∙ ap (λ (x : Bool). if x then suc (dots_count dots rest) else dots_count dots rest) (sym h) in
    omega (arith, g)

-- ---- what nodes of a region may name

-- the parts and the tail of a list
pub list_named : (work : Work) (region : Region) (items : Vec number.Tree Global) (tail : Option number.Tree) (o : Option Occ) → CanNameParts work region (node.List items tail o) → AllNamed work region items.items × EndNamed work region tail
list_named work region items None o h = (h, tt)
list_named work region items (Some n) o h = (h.1, h.0)

-- the tree at a place
pub part_named : (work : Work) (region : Region) (k : ℕ) (ns : List number.Tree) (d : number.Tree) → AllNamed work region ns → k < length ns → CanName work region (get_or ns k d)
part_named work region k [] d h l = absurd (omega arith)
part_named work region zero (n ∷ ns) d h l = h.0
part_named work region (suc k) (n ∷ ns) d h l = part_named work region k ns d h.1 (omega arith)

-- one more
pub named_more : (work : Work) (region : Region) (ns : List number.Tree) (n : number.Tree) → AllNamed work region ns → CanName work region n → AllNamed work region (ns ++ n ∷ [])
named_more work region [] n h g = (g, tt)
named_more work region (m ∷ ns) n h g = (h.0, named_more work region ns n h.1 g)
