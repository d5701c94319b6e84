-- The parts of a node, one after the other, and the measures at their numbers.
use Rattle.std.proofs.Common.{◌≡◌, ℕ, zero, suc, ◌+◌, ◌<◌, List, [], ◌∷◌, max, length, drop, get_or, sum_by, Option, Some, refl, ap, ◌∙◌, subst, arith, add-one}
use Rattle.std.specs.Prelude.{IsSome}
use Rattle.std.specs.Option.{option_map, option_map_or}
use Rattle.std.specs.FinMap as map
use Rattle.std.proofs.lemmas.List.Sums.{sum_by-cons}
use Rattle.node_pool.specs.NodePool as pool
use Rattle.syntax_tree.specs.Kept.{KeptNodes, size_at, depth_at, numbers, deepest, AllLive}
use Rattle.syntax_tree.specs.declared.trees.nodes.Tree.{Tree}
use Rattle.syntax_tree.specs.declared.trees.measures.Kept.{Kept}
use Rattle.syntax_tree.proofs.NodeLaws.{map_some}

numbers-suc : (ps : List Tree) (i : ℕ) (d : Tree) → i < length ps → drop i (numbers ps) ≡ (get_or ps i d).number ∷ drop (suc i) (numbers ps)
numbers-suc [] i d h = absurd (omega arith)
numbers-suc (p ∷ ps) zero d h = refl
numbers-suc (p ∷ ps) (suc i) d h = numbers-suc ps i d (omega arith)

-- the number of the next part
pub numbers-next : (ps : List Tree) (i : ℕ) (d : Tree) → i < length ps → drop i (numbers ps) ≡ (get_or ps i d).number ∷ drop (i + 1) (numbers ps)
numbers-next ps i d h = rw add-one (numbers-suc ps i d h)

-- what is kept at a number
pub size-read : (ns : KeptNodes) (n : ℕ) (k : Kept) → option_map (λ (l : pool.Lived Kept). l.node) (map.get ns n) ≡ Some k → size_at ns n ≡ k.size
size-read ns n k h = let p = map_some (λ (l : pool.Lived Kept). l.node) (map.get ns n) k h in ap (λ (o : Option (pool.Lived Kept)). option_map_or (λ (l : pool.Lived Kept). l.node.size) o 0) p.1 ∙ ap (λ (x : Kept). x.size) p.2

pub depth-read : (ns : KeptNodes) (n : ℕ) (k : Kept) → option_map (λ (l : pool.Lived Kept). l.node) (map.get ns n) ≡ Some k → depth_at ns n ≡ k.depth
depth-read ns n k h = let p = map_some (λ (l : pool.Lived Kept). l.node) (map.get ns n) k h in ap (λ (o : Option (pool.Lived Kept)). option_map_or (λ (l : pool.Lived Kept). l.node.depth) o 0) p.1 ∙ ap (λ (x : Kept). x.depth) p.2

module _ (ns : KeptNodes) (ps : List Tree) (i : ℕ) (d : Tree) (h : i < length ps) (live : AllLive ns (drop i (numbers ps))) where
  here : AllLive ns ((get_or ps i d).number ∷ drop (i + 1) (numbers ps))
  here = subst (AllLive ns) (numbers-next ps i d h) live

  -- the next part lives, and so do the others
  pub next_live : IsSome (map.get ns (get_or ps i d).number)
  next_live = here.0

  pub rest_live : AllLive ns (drop (i + 1) (numbers ps))
  rest_live = here.1

module _ (ns : KeptNodes) (ps : List Tree) (i : ℕ) (p : Tree) (k : Kept) (h : i < length ps) (at : option_map (λ (l : pool.Lived Kept). l.node) (map.get ns (get_or ps i p).number) ≡ Some k) where
  pub sum-next : sum_by (size_at ns) (drop i (numbers ps)) ≡ k.size + sum_by (size_at ns) (drop (i + 1) (numbers ps))
  sum-next = ap (sum_by (size_at ns)) (numbers-next ps i p h) ∙ sum_by-cons (size_at ns) (get_or ps i p).number (drop (i + 1) (numbers ps)) ∙ ap (λ (n : ℕ). n + sum_by (size_at ns) (drop (i + 1) (numbers ps))) (size-read ns (get_or ps i p).number k at)

  pub deepest-next : deepest (depth_at ns) (drop i (numbers ps)) ≡ max k.depth (deepest (depth_at ns) (drop (i + 1) (numbers ps)))
  deepest-next = ap (deepest (depth_at ns)) (numbers-next ps i p h) ∙ ap (λ (n : ℕ). max n (deepest (depth_at ns) (drop (i + 1) (numbers ps)))) (depth-read ns (get_or ps i p).number k at)
