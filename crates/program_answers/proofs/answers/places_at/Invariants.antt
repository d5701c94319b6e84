use Rattle.std.proofs.Common.{◌≡◌, take, map}
use Rattle.std.specs.FinMap.{entries}
use Rattle.program_answers.specs.BytesKept.{bytes_seen}
use Rattle.program_answers.specs.ToldAnswers.{place_told}
use Rattle.program_answers.proofs.answers.places_at.Given as goal

-- the places of the bytes gone through
abbrev pub invariant-loop-bytes : goal.invariant-loop-bytes
invariant-loop-bytes l = l.places ≡ map (place_told l.asked.encoding (entries l.asked.texts.now)) (map bytes_seen (take l.bytes-index l.all))
