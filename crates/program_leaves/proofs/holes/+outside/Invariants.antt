use Rattle.std.proofs.Common.{◌≡◌, ◌+◌, ◌*◌, ◌<◌, ◌^◌, ◌++◌, ℕ, List, Option, map}
use Rattle.scheme_model.specs.Trees.{Trees, Tail}
use Rattle.scheme_model.specs.Cores.{hole_weight, weights, tail_weight}
use Rattle.scheme_model.specs.Holes.{FillsHole, AreLike, places_among, places_behind}
use Rattle.scheme_model.specs.Ident.{Ident as Identifier, symbol_of}
use Rattle.syntax_tree.specs.Looks.{PartsStand}
use Rattle.program_leaves.specs.Holes.{left, AllFrom}
use Rattle.program_leaves.proofs.HoleLaws.{Walked}
use Rattle.program_leaves.proofs.holes.+outside.Given as goal

abbrev pub decreases-add_outside : goal.decreases-add_outside
decreases-add_outside l = 2 * l.depth

abbrev pub decreases-add_row_outside : goal.decreases-add_row_outside
decreases-add_row_outside l = 2 * l.depth + 1

abbrev pub invariant-add_row_outside-loop-k : goal.invariant-add_row_outside-loop-k
invariant-add_row_outside-loop-k l =
    (ts : Trees Identifier) (us : Trees (Option (List ℕ))) (last : Tail (Option (List ℕ))) (rest : List ℕ) → PartsStand l.work l.items ts → AreLike (FillsHole symbol_of) ts us →
    left l.fn.holes ≡ places_among hole_weight l.fn.holes.nodes us ++ places_behind hole_weight (l.fn.holes.nodes + weights hole_weight us) last ++ rest →
    AllFrom (l.fn.holes.nodes + weights hole_weight us + tail_weight hole_weight last) rest → l.fn.holes.nodes + weights hole_weight us + tail_weight hole_weight last < 2 ^ 63 →
    Walked symbol_of (map (λ n. n.occ) l.fn.names.items) (map (λ n. n.occ) l.names.items) (left l.holes) l.holes.nodes l.fn.holes.nodes l.k ts us last rest
