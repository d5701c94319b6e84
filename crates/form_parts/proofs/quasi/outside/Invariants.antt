use Rattle.std.proofs.Common.{◌≡◌, ◌+◌, drop}
use Rattle.scheme_model.specs.Cores.{outside}
use Rattle.form_parts.specs.Marked.{IsQuasi}
use Rattle.form_parts.proofs.QuasiReads.{sizes}
use Rattle.form_parts.proofs.quasi.outside.Given as goal

abbrev pub invariant-loop-part : goal.invariant-loop-part
invariant-loop-part l = (q : IsQuasi l.work l.fn.datum l.parts) → l.count ≡ 1 + outside q.pieces.datum + sizes (drop l.part-index q.pieces.holes)
