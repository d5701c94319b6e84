use Rattle.std.proofs.Common.{◌≡◌, List, take, map, length}
use Rattle.std.specs.FinMap.{entries}
use Rattle.program_answers.specs.AskedOf.{IsSource}
use Rattle.program_answers.specs.BytesKept.{AreInside, bytes_seen}
use Rattle.read_documents.specs.Readings.{Read}
use Rattle.program_answers.specs.ToldAnswers.{facts_in}
use Rattle.program_answers.proofs.answers.all_bytes.Given as goal

-- the bytes of the occurrences gone through
abbrev pub invariant-loop-occ : goal.invariant-loop-occ
invariant-loop-occ l = record {
  inside : AreInside (length (entries l.asked.texts.now)) (map bytes_seen l.all.items);
  exact : (rs : List Read) → IsSource l.asked.texts.now rs l.asked.index.now → map bytes_seen l.all.items ≡ map (facts_in rs).bytes (take l.occ-index l.occs);
}
