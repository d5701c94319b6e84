use Rattle.std.proofs.Common.{◌≡◌, ◌++◌, ◌≤◌, ◌-◌, length, take, List}
use Rattle.ls_base.specs.Frames.{Frame, bodies_of}
use Rattle.lsp_framing.specs.Taken.{Goes, contents}
use Rattle.lsp_framing.proofs.partial.Partial.take_in.Given as goal

abbrev pub invariant-loop-at : goal.invariant-loop-at
invariant-loop-at l = (l.at ≤ length l.piece) × (gs : List Frame) × Goes l.fn.self (take l.at l.piece) gs l.self × (contents l.done ≡ contents l.fn.done ++ bodies_of gs)

abbrev pub decreases-loop-at : goal.decreases-loop-at
decreases-loop-at l = length l.piece - l.at
