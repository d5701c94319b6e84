use Rattle.std.proofs.Common.{◌≡◌, ◌≤◌, ◌++◌, ◌-◌, length}
use Rattle.std.specs.Vec.Iter.{into_iter_items}
use Rattle.lsp_framing.specs.Taken.{contents}
use Rattle.lookahead.proofs.bodies.refill.Given as goal

-- the window holds the first of the bodies
abbrev pub invariant-loop-rest : goal.invariant-loop-rest
invariant-loop-rest l = record {
  all : l.window ++ contents (into_iter_items l.rest) ≡ contents (into_iter_items l.fn.rest);
  few : length l.window ≤ 64;
}

abbrev pub decreases-loop-rest : goal.decreases-loop-rest
decreases-loop-rest l = 64 - length l.window
