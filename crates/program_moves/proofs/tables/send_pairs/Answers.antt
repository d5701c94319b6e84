use Rattle.std.proofs.Common.{◌∙◌}
use Rattle.program_moves.proofs.PairLaws.{pairs_step}
use Rattle.program_moves.proofs.tables.send_pairs.Goals as goal

pub loop-place-preserved : goal.loop-place-preserved
loop-place-preserved c = record {
  inverse = c.send.ensures.inverse;
  length = c.send.ensures.length ∙ c.loop-place.invariant.length;
  sent = pairs_step c.args.pairs.now c.loop-place.place _ c.requires.pairs c.loop-place-test.true c.loop-place.numbers.forth.items c.send.new.self.forth.items c.loop-place.invariant.sent c.send.ensures.sent c.send.ensures.others;
}
