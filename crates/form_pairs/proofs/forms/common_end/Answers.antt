use Rattle.std.proofs.Common.{arith}
use Rattle.form_pairs.proofs.FrontLaws.{same_from_end, other_from_end, ended_from_end}
use Rattle.form_pairs.proofs.forms.common_end.Goals as goal

pub returns-then-not-branch-clause-count : goal.returns-then-not-branch-clause-count
returns-then-not-branch-clause-count c =
    other_from_end c.args.a.now c.args.b.now c.loop-n.n c.index-a-a.result c.index-b-b.result c.in_ok-is_same_form.field-0
    (omega (arith, c.loop-n-test.true, c.min-most.ensures)) (omega (arith, c.loop-n-test.true, c.min-most.ensures))
    c.index-a-a.is c.index-b-b.is c.in_ok-is_same_form.ensures c.loop-n.invariant c.if-not-branch.true

pub loop-n-preserved : goal.loop-n-preserved
loop-n-preserved c =
    same_from_end c.args.a.now c.args.b.now c.loop-n.n c.index-a-a.result c.index-b-b.result c.in_ok-is_same_form.field-0
    (omega (arith, c.loop-n-test.true, c.min-most.ensures)) (omega (arith, c.loop-n-test.true, c.min-most.ensures))
    c.index-a-a.is c.index-b-b.is c.in_ok-is_same_form.ensures c.loop-n.invariant c.if-not-branch.false

pub returns-clause-count : goal.returns-clause-count
returns-clause-count c = ended_from_end c.args.a.now c.args.b.now c.min-most.result c.loop-n.n c.min-most.ensures (omega (arith, c.loop-n-test.false, c.loop-n.auto.n-end)) c.loop-n.invariant
