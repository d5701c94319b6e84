use Rattle.std.proofs.Common.{◌≡◌, arith}
use Rattle.form_pairs.proofs.FrontLaws.{ended}
use Rattle.form_pairs.proofs.forms.common_front.Goals as goal

pub returns : goal.returns
returns c = record {
  count = ended c.args.a.now c.args.b.now c.min-most.result c.loop-n.n c.min-most.ensures (omega (arith, c.loop-n-test.false, c.loop-n.auto.n-end)) c.loop-n.invariant;
  before = omega (arith, c.min-most.ensures);
  after = omega (arith, c.min-most.ensures);
}
