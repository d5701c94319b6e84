use Rattle.std.proofs.Common.{◌≡◌, List, take, map, filter, length}
use Rattle.std.specs.FinMap.{entries}
use Rattle.scheme_model.specs.Answers.{is_in, kind_of}
use Rattle.program_answers.specs.AskedOf.{IsSource}
use Rattle.program_answers.specs.BytesKept.{AreLitInside, lit_seen}
use Rattle.read_documents.specs.Readings.{Read}
use Rattle.program_answers.specs.ToldAnswers.{facts_in}
use Rattle.program_answers.proofs.answers.all_lit.Given as goal

-- those of the occurrences gone through that stand in the document
abbrev pub invariant-loop-occ : goal.invariant-loop-occ
invariant-loop-occ l = record {
  inside : AreLitInside (length (entries l.asked.texts.now)) (map lit_seen l.all.items);
  exact : (rs : List Read) → IsSource l.asked.texts.now rs l.asked.index.now →
      map lit_seen l.all.items ≡ map (λ o. ((facts_in rs).bytes o, kind_of (facts_in rs) o)) (filter (λ o. is_in l.document ((facts_in rs).bytes o)) (take l.occ-index l.occs));
}
