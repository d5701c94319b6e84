use Rattle.std.proofs.Common.{◌≡◌, List, take, map, filter, length}
use Rattle.std.specs.FinMap.{entries}
use Rattle.program_answers.specs.AskedOf.{IsSource}
use Rattle.program_answers.specs.BytesKept.{AreDrawnInside, drawn_seen, has_end, pair_bytes}
use Rattle.read_documents.specs.Readings.{Read}
use Rattle.program_answers.specs.ToldAnswers.{facts_in}
use Rattle.program_answers.proofs.answers.all_drawn.Given as goal

-- those of the arrows gone through that have an end in the document
abbrev pub invariant-loop-pair : goal.invariant-loop-pair
invariant-loop-pair l = record {
  inside : AreDrawnInside (length (entries l.asked.texts.now)) (map drawn_seen l.all.items);
  exact : (rs : List Read) → IsSource l.asked.texts.now rs l.asked.index.now →
      map drawn_seen l.all.items ≡ filter (has_end l.document) (map (pair_bytes (facts_in rs).bytes) (take l.pair-index l.pair-items));
}
