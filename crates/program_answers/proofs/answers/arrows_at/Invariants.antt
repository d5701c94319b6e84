use Rattle.std.proofs.Common.{◌≡◌, List, take, map}
use Rattle.std.specs.FinMap.{entries}
use Rattle.program_answers.specs.AskedOf.{IsSource}
use Rattle.program_answers.specs.BytesKept.{HaveTokens, drawn_seen}
use Rattle.read_documents.specs.Readings.{Read}
use Rattle.program_answers.specs.ToldAnswers.{arrow_told, facts_in}
use Rattle.program_answers.proofs.answers.arrows_at.Given as goal

-- the pairs gone through
abbrev pub invariant-loop-drawn : goal.invariant-loop-drawn
invariant-loop-drawn l = (rs : List Read) → IsSource l.asked.texts.now rs l.asked.index.now → HaveTokens (facts_in rs).bytes (map drawn_seen l.all) →
    l.arrows ≡ map (arrow_told l.asked.encoding (entries l.asked.texts.now)) (map drawn_seen (take l.drawn-index l.all))
