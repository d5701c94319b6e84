use Rattle.std.proofs.Common.{◌≡◌, take, map}
use Rattle.std.specs.FinMap.{entries}
use Rattle.program_answers.specs.BytesKept.{lit_seen}
use Rattle.program_answers.specs.ToldAnswers.{highlight_told}
use Rattle.program_answers.proofs.answers.highlights_at.Given as goal

-- the lit bytes gone through
abbrev pub invariant-loop-lit : goal.invariant-loop-lit
invariant-loop-lit l = l.lights ≡ map (highlight_told l.asked.encoding (entries l.asked.texts.now)) (map lit_seen (take l.lit-index l.all))
