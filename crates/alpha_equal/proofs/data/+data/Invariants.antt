use Rattle.std.proofs.Common.{◌≡◌, ◌+◌, ◌*◌, ◌<◌, ◌^◌, ◌++◌, ℕ, List, Option}
use Rattle.scheme_model.specs.Trees.{Trees, Tail}
use Rattle.scheme_model.specs.Cores.{hole_weight, weights, tail_weight}
use Rattle.scheme_model.specs.Holes.{FillsHole, AreLike, places_among, places_behind}
use Rattle.scheme_model.specs.Ident.{Ident as Identifier, symbol_of}
use Rattle.syntax_tree.specs.Looks.{PartsStand}
use Rattle.program_leaves.specs.Holes.{AllFrom}
use Rattle.alpha_equal.specs.Data.{left, IsDatumNode}
use Rattle.alpha_equal.proofs.DataLaws.{Walked}
use Rattle.alpha_equal.proofs.data.+data.Given as goal

abbrev pub decreases-add_datum : goal.decreases-add_datum
decreases-add_datum l = 2 * l.depth

abbrev pub decreases-add_data : goal.decreases-add_data
decreases-add_data l = 2 * l.depth + 1

abbrev pub invariant-add_data-loop-k : goal.invariant-add_data-loop-k
invariant-add_data-loop-k l =
    (ts : Trees Identifier) (us : Trees (Option (List ℕ))) (last : Tail (Option (List ℕ))) (rest : List ℕ) → PartsStand l.work l.items ts → AreLike (FillsHole symbol_of) ts us →
    left l.fn.walk ≡ places_among hole_weight l.fn.walk.nodes us ++ places_behind hole_weight (l.fn.walk.nodes + weights hole_weight us) last ++ rest →
    AllFrom (l.fn.walk.nodes + weights hole_weight us + tail_weight hole_weight last) rest → l.fn.walk.nodes + weights hole_weight us + tail_weight hole_weight last < 2 ^ 63 →
    Walked (IsDatumNode l.work.symbols) symbol_of l.fn.nodes.items l.nodes.items (left l.walk) l.walk.nodes l.fn.walk.nodes l.k ts us last rest
