use Rattle.std.proofs.Common.{◌≡◌, drop}
use Rattle.program_moves.specs.Sent.{pair_at}
use Rattle.program_moves.proofs.tables.pair_of.Given as goal

abbrev pub invariant-loop-pair : goal.invariant-loop-pair
invariant-loop-pair l = pair_at l.pairs l.unit ≡ pair_at (drop l.pair-index l.pairs) l.unit
