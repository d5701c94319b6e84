use Rattle.std.proofs.Common.{◌≡◌, ◌<◌, List, map, drop, length, None, IfSome}
use Rattle.std.specs.FinMap.{entries}
use Rattle.std.specs.Option.{option_map}
use Rattle.read_documents.specs.Places.{bytes_at}
use Rattle.read_documents.specs.Readings.{Read, AreReadAs}
use Rattle.program_answers.specs.ToldAnswers.{facts_in}
use Rattle.class_edits.specs.FirstBytes.{first_of, repeated}
use Rattle.class_edits.proofs.clashes.first_repeated.Given as goal

-- the first of those found so far and of those that are left
abbrev pub invariant-loop-part : goal.invariant-loop-part
invariant-loop-part l = record {
  inside : IfSome l.first (λ at. at.document < length (entries l.texts));
  exact : (rs : List Read) → AreReadAs (entries l.texts) rs →
      first_of (option_map bytes_at l.first) (map (facts_in rs).bytes (repeated l.last (drop l.part-index l.parts))) ≡ first_of None (map (facts_in rs).bytes (repeated None l.parts));
}
