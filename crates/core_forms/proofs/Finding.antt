-- What a walk through a datum may go into: parts and tails are less deep, and their nodes can be counted.
use Rattle.std.proofs.Common.{◌≡◌, ℕ, zero, suc, ◌+◌, ◌-◌, ◌^◌, ◌<◌, ◌≤◌, List, length, get_or, Option, Some, None, ap, subst, arith}
use Rattle.std.specs.Prelude.{max}
use Rattle.std.proofs.lemmas.Option.{same_Some}
use Rattle.scheme_model.specs.declared.Occ.{Occ}
use Rattle.scheme_model.specs.Trees.{Tree, name, atom, list, vector, Trees, no_trees, tree, Tail, proper, dotted}
use Rattle.scheme_model.specs.Matching.{behind}
use Rattle.scheme_model.specs.Measures.{tree_size, trees_size, tail_size, tree_depth, trees_depth, tail_depth}
use Rattle.scheme_model.specs.Ident.{Ident as Identifier}
use Rattle.syntax_tree.specs.Looks.{PartsStand, EndStands}
use Rattle.syntax_tree.specs.Works.{StandsFor}
use Rattle.syntax_tree.proofs.Looking.{part_there, split_depth}
use Rattle.syntax_tree.specs.declared.trees.Work.{Work}
use Rattle.syntax_tree.specs.declared.trees.nodes.Tree as number
use Rattle.core_forms.specs.Marks.{CanFind, CanFindParts, CanFindRow}

pub size_positive : (t : Tree Identifier) → 1 ≤ tree_size t
size_positive (name i o) = omega arith
size_positive (atom a o) = omega arith
size_positive (list ts tail o) = omega arith
size_positive (vector ts o) = omega arith

pub depth_positive : (t : Tree Identifier) → 1 ≤ tree_depth t
depth_positive (name i o) = omega arith
depth_positive (atom a o) = omega arith
depth_positive (list ts tail o) = omega arith
depth_positive (vector ts o) = omega arith

pub split_size : (k : ℕ) (ts : Trees Identifier) (t : Tree Identifier) (us : Trees Identifier) → behind k ts ≡ tree t us → trees_size (behind k ts) ≡ tree_size t + trees_size us
split_size k ts t us e = ap (λ (x : Trees Identifier). trees_size x) e

pub behind_size : (k : ℕ) (ts : Trees Identifier) → trees_size (behind k ts) ≤ trees_size ts
behind_size zero ts = omega arith
behind_size (suc k) no_trees = omega arith
behind_size (suc k) (tree t ts) = omega (arith, behind_size k ts)

module _ (work : Work) where
  pub can_positive : (n : number.Tree) (level left : ℕ) → CanFind work n level left → 1 ≤ left
  can_positive n level left h = let p = depth_positive h.0 in omega (arith, h.2)

  -- a list and a vector
  pub into_row : (level left : ℕ) (t : Tree Identifier) (ns : List number.Tree) (end : Option number.Tree) (ts : Trees Identifier) (tail : Tail Identifier) (o : Option Occ) → tree_depth t ≤ left → level + tree_size t < 2 ^ 32 → t ≡ list ts tail o →
      PartsStand work ns ts → EndStands work end tail → CanFindRow work ns end level (left - 1)
  into_row level left t ns end ts tail o d s e h g =
      let b : 1 + max (trees_depth ts) (tail_depth tail) ≤ left = subst (λ (x : Tree Identifier). tree_depth x ≤ left) e d in
      let c : level + (1 + (trees_size ts + tail_size tail)) < 2 ^ 32 = subst (λ (x : Tree Identifier). level + tree_size x < 2 ^ 32) e s in
      record { parts = ts; tail = tail; parts_stand = h; end_stands = g; parts_deep = omega arith; tail_deep = omega arith; small = omega arith }

  pub into_parts : (level left : ℕ) (t : Tree Identifier) (ns : List number.Tree) (ts : Trees Identifier) (o : Option Occ) → tree_depth t ≤ left → level + tree_size t < 2 ^ 32 → t ≡ vector ts o → PartsStand work ns ts → CanFindParts work ns level (left - 1)
  into_parts level left t ns ts o d s e h =
      let b : 1 + trees_depth ts ≤ left = subst (λ (x : Tree Identifier). tree_depth x ≤ left) e d in
      let c : level + (1 + trees_size ts) < 2 ^ 32 = subst (λ (x : Tree Identifier). level + tree_size x < 2 ^ 32) e s in
      (ts, h, omega arith, omega arith)

  -- a part of a vector
  pub part_of_parts : (ns : List number.Tree) (level left k : ℕ) (d : number.Tree) → CanFindParts work ns level left → k < length ns → CanFind work (get_or ns k d) level left
  part_of_parts ns level left k d h l =
      let p = part_there work k ns h.0 d h.1 l in
      let deep = split_depth k h.0 p.part (behind (suc k) h.0) p.split in
      let size = split_size k h.0 p.part (behind (suc k) h.0) p.split in
      let less = behind_size k h.0 in
      (p.part, p.stands, omega (arith, deep, h.2), omega (arith, size, less, h.3))

  -- how far the level can have risen before a place
  abbrev pub Counted : List number.Tree → Option number.Tree → ℕ → ℕ → ℕ → Type 0
  Counted ns end level inner k = (ts : Trees Identifier) (tail : Tail Identifier) → PartsStand work ns ts → EndStands work end tail → inner + trees_size (behind k ts) + tail_size tail ≤ level + trees_size ts + tail_size tail

  pub part_of_row : (ns : List number.Tree) (end : Option number.Tree) (level inner left k : ℕ) (d : number.Tree) → CanFindRow work ns end level left → Counted ns end level inner k → k < length ns → CanFind work (get_or ns k d) inner left
  part_of_row ns end level inner left k d h c l =
      let p = part_there work k ns h.parts d h.parts_stand l in
      let deep = split_depth k h.parts p.part (behind (suc k) h.parts) p.split in
      let size = split_size k h.parts p.part (behind (suc k) h.parts) p.split in
      let less = c h.parts h.tail h.parts_stand h.end_stands in
      (p.part, p.stands, omega (arith, deep, h.parts_deep), omega (arith, size, less, h.small))

  -- the level can rise at a part
  pub room_at : (ns : List number.Tree) (end : Option number.Tree) (level inner left k : ℕ) (d : number.Tree) → CanFindRow work ns end level left → Counted ns end level inner k → k < length ns → inner + 1 < 2 ^ 32
  room_at ns end level inner left k d h c l =
      let p = part_there work k ns h.parts d h.parts_stand l in
      let size = split_size k h.parts p.part (behind (suc k) h.parts) p.split in
      let one = size_positive p.part in
      let less = c h.parts h.tail h.parts_stand h.end_stands in
      omega (arith, size, less, one, h.small)

  pub counted_more : (ns : List number.Tree) (end : Option number.Tree) (level inner next k : ℕ) (d : number.Tree) → Counted ns end level inner k → k < length ns → next ≤ inner + 1 → Counted ns end level next (suc k)
  counted_more ns end level inner next k d c l near ts tail stands ends =
      let p = part_there work k ns ts d stands l in
      let size = split_size k ts p.part (behind (suc k) ts) p.split in
      let one = size_positive p.part in
      let less = c ts tail stands ends in
      omega (arith, size, less, one, near)

  pub last_of_row : (ns : List number.Tree) (end : Option number.Tree) (n : number.Tree) (level inner left k : ℕ) → end ≡ Some n → CanFindRow work ns end level left → Counted ns end level inner k → CanFind work n inner left
  last_of_row ns None n level inner left k e h c = absurd cc
  last_of_row ns (Some m) n level inner left k e h c =
      subst (λ (x : number.Tree). CanFind work x inner left) (same_Some m n e) (last h.tail h.end_stands h.tail_deep (omega (arith, c h.parts h.tail h.parts_stand h.end_stands, h.small)))
    where
      last : (tail : Tail Identifier) → EndStands work (Some m) tail → tail_depth tail ≤ left → inner + tail_size tail < 2 ^ 32 → CanFind work m inner left
      last proper g d s = absurd g
      last (dotted t) g d s = (t, g.1, d, s)

  -- ---- the nodes that are passed

  -- into a list and a vector, which are passed themselves
  pub past_row : (passed left : ℕ) (t : Tree Identifier) (ns : List number.Tree) (end : Option number.Tree) (ts : Trees Identifier) (tail : Tail Identifier) (o : Option Occ) → tree_depth t ≤ left → passed + tree_size t < 2 ^ 32 → t ≡ list ts tail o →
      PartsStand work ns ts → EndStands work end tail → CanFindRow work ns end (passed + 1) (left - 1)
  past_row passed left t ns end ts tail o d s e h g =
      let b : 1 + max (trees_depth ts) (tail_depth tail) ≤ left = subst (λ (x : Tree Identifier). tree_depth x ≤ left) e d in
      let c : passed + (1 + (trees_size ts + tail_size tail)) < 2 ^ 32 = subst (λ (x : Tree Identifier). passed + tree_size x < 2 ^ 32) e s in
      record { parts = ts; tail = tail; parts_stand = h; end_stands = g; parts_deep = omega arith; tail_deep = omega arith; small = omega arith }

  pub past_parts : (passed left : ℕ) (t : Tree Identifier) (ns : List number.Tree) (ts : Trees Identifier) (o : Option Occ) → tree_depth t ≤ left → passed + tree_size t < 2 ^ 32 → t ≡ vector ts o → PartsStand work ns ts → CanFindParts work ns (passed + 1) (left - 1)
  past_parts passed left t ns ts o d s e h =
      let b : 1 + trees_depth ts ≤ left = subst (λ (x : Tree Identifier). tree_depth x ≤ left) e d in
      let c : passed + (1 + trees_size ts) < 2 ^ 32 = subst (λ (x : Tree Identifier). passed + tree_size x < 2 ^ 32) e s in
      (ts, h, omega arith, omega arith)

  pub can_pass : (n : number.Tree) (passed left : ℕ) → CanFind work n passed left → passed + 1 < 2 ^ 32
  can_pass n passed left h = omega (arith, size_positive h.0, h.3)

  -- how many nodes of a vector's parts can have been passed before a place
  abbrev pub CountedParts : List number.Tree → ℕ → ℕ → ℕ → Type 0
  CountedParts ns before passed k = (ts : Trees Identifier) → PartsStand work ns ts → passed + trees_size (behind k ts) ≤ before + trees_size ts

  pub passed_part : (ns : List number.Tree) (before passed left k : ℕ) (d : number.Tree) → CanFindParts work ns before left → CountedParts ns before passed k → k < length ns → CanFind work (get_or ns k d) passed left
  passed_part ns before passed left k d h c l =
      let p = part_there work k ns h.0 d h.1 l in
      let deep = split_depth k h.0 p.part (behind (suc k) h.0) p.split in
      let size = split_size k h.0 p.part (behind (suc k) h.0) p.split in
      let less = c h.0 h.1 in
      (p.part, p.stands, omega (arith, deep, h.2), omega (arith, size, less, h.3))

  pub parts_passed : (ns : List number.Tree) (before passed next k : ℕ) (d : number.Tree) → CountedParts ns before passed k → k < length ns → ((t : Tree Identifier) → StandsFor work (get_or ns k d) t → next ≤ passed + tree_size t) → CountedParts ns before next (suc k)
  parts_passed ns before passed next k d c l near ts stands =
      let p = part_there work k ns ts d stands l in
      omega (arith, split_size k ts p.part (behind (suc k) ts) p.split, c ts stands, near p.part p.stands)

  pub row_passed : (ns : List number.Tree) (end : Option number.Tree) (before passed next k : ℕ) (d : number.Tree) → Counted ns end before passed k → k < length ns → ((t : Tree Identifier) → StandsFor work (get_or ns k d) t → next ≤ passed + tree_size t) → Counted ns end before next (suc k)
  row_passed ns end before passed next k d c l near ts tail stands ends =
      let p = part_there work k ns ts d stands l in
      omega (arith, split_size k ts p.part (behind (suc k) ts) p.split, c ts tail stands ends, near p.part p.stands)

  -- a mark at a place is within the row
  pub mark_within : (ns : List number.Tree) (end : Option number.Tree) (before passed next k : ℕ) (d : number.Tree) → Counted ns end before passed k → k < length ns → next ≤ passed + 1 → (ts : Trees Identifier) (tail : Tail Identifier) → PartsStand work ns ts → EndStands work end tail →
      next ≤ before + trees_size ts + tail_size tail
  mark_within ns end before passed next k d c l near ts tail stands ends =
      let p = part_there work k ns ts d stands l in
      omega (arith, split_size k ts p.part (behind (suc k) ts) p.split, size_positive p.part, c ts tail stands ends, near)
