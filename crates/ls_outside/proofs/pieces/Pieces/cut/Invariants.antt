use Rattle.std.proofs.Common.{List, ℕ, ◌++◌, length}
use Rattle.ls_outside.specs.Left.{pieces_left}
use Rattle.ls_outside.specs.Sources.{AreCuts}
use Rattle.ls_outside.proofs.pieces.Pieces.cut.Given as goal

-- the pieces so far, and any cuts of the rest, are the cuts of all
abbrev pub invariant-loop-rest : goal.invariant-loop-rest
invariant-loop-rest l = (later : List (List ℕ)) → AreCuts l.size l.rest later → AreCuts l.size l.bytes (pieces_left l.pieces ++ later)

abbrev pub decreases-loop-rest : goal.decreases-loop-rest
decreases-loop-rest l = length l.rest
