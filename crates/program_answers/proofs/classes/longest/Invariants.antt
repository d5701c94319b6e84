use Rattle.std.proofs.Common.{take}
use denote.Text.{Utf8}
use denote.Shadow.{shadow}
use Rattle.program_answers.specs.AskedOf.{own_prefixes}
use Rattle.program_answers.specs.Classed.{IsLongest}
use Rattle.program_answers.proofs.classes.longest.Given as goal

-- it is a text, the longest prefix of the parts gone through
abbrev pub invariant-loop-part : goal.invariant-loop-part
invariant-loop-part l = shadow (Utf8 l.longest) × IsLongest (own_prefixes (take l.part-index l.parts) l.occ) l.longest
