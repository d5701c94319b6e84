use Rattle.std.proofs.Common.{◌≡◌, ◌+◌, drop, sum_by, max}
use Rattle.syntax_tree.specs.Kept.{size_at, depth_at, numbers, deepest, AllLive}
use Rattle.syntax_tree.proofs.trees.measures.measure_parts.Given as goal

abbrev pub invariant-loop-part : goal.invariant-loop-part
invariant-loop-part l = record {
  live : AllLive l.pool.nodes (drop l.part-index (numbers l.parts));
  sum : l.size + sum_by (size_at l.pool.nodes) (drop l.part-index (numbers l.parts)) ≡ sum_by (size_at l.pool.nodes) (numbers l.parts);
  most : max l.depth (deepest (depth_at l.pool.nodes) (drop l.part-index (numbers l.parts))) ≡ deepest (depth_at l.pool.nodes) (numbers l.parts);
}
