use Rattle.std.proofs.Common.{◌∙◌, arith}
use Rattle.std.proofs.lemmas.Option.{slice_get_within}
use Rattle.program_moves.proofs.PairLaws.{homes_step, others_step}
use Rattle.program_moves.proofs.tables.send_homes.Goals as goal

pub loop-place-preserved : goal.loop-place-preserved
loop-place-preserved c = record {
  inverse = c.send.ensures.inverse;
  length = c.send.ensures.length ∙ c.loop-place.invariant.length;
  homes = homes_step c.args.pairs.now c.args.homes.now c.loop-place.place _ c.requires.homes c.loop-place-test.true c.loop-place.numbers.forth.items c.send.new.self.forth.items c.send.ensures.sent c.send.ensures.others c.loop-place.invariant.homes;
  others = others_step c.args.pairs.now c.args.homes.now c.loop-place.place _ c.requires.homes c.loop-place-test.true c.loop-place.numbers.forth.items c.send.new.self.forth.items c.send.ensures.sent c.send.ensures.others c.loop-place.invariant.others;
}

pub returns-clause-homes : goal.returns-clause-homes
returns-clause-homes c i h at = c.loop-place.invariant.homes i h (omega (arith, slice_get_within c.args.homes.now i h at, c.loop-place-test.false)) at
