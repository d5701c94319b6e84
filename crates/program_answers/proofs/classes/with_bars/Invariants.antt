use Rattle.std.proofs.Common.{◌≡◌, List, map}
use Rattle.std.specs.FinMap.{entries}
use Rattle.std.specs.List.{All}
use Rattle.program_answers.specs.AskedOf.{IsSource}
use Rattle.read_documents.specs.Readings.{Read}
use Rattle.program_answers.specs.Classed.{bare_part}
use Rattle.program_answers.specs.ToldAnswers.{facts_in, has_bars}
use Rattle.program_answers.proofs.classes.with_bars.Given as goal

-- the parts gone through
abbrev pub invariant-loop-occ : goal.invariant-loop-occ
invariant-loop-occ l = record {
  same : map bare_part l.all ≡ l.yielded;
  bars : (rs : List Read) → IsSource l.asked.texts.now rs l.asked.index.now → All (λ p. p.bars ≡ has_bars (entries l.asked.texts.now) ((facts_in rs).bytes p.occ)) l.all;
}
