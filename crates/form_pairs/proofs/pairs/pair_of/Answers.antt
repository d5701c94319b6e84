use Rattle.std.proofs.Common.{◌≡◌, Option, get_or, ap, arith}
use Rattle.form_pairs.specs.Found.{pair_there, pair_made, pair_in}
use Rattle.form_pairs.specs.declared.pairs.UnitPair.{UnitPair}
use Rattle.form_pairs.specs.declared.units.UnitText.{UnitText}
use Rattle.form_pairs.proofs.PairLaws.{by_answer, pair_found, pair_not_yet, no_pair}
use Rattle.form_pairs.proofs.pairs.pair_of.Goals as goal

pub returns-then-is_same_unit-clause-pair : goal.returns-then-is_same_unit-clause-pair
returns-then-is_same_unit-clause-pair c us vs are too =
    let cs = c.args.before.now.units.now in
    let b = c.args.before.now.unit in
    by_answer (λ (p : Option UnitPair). pair_there p ≡ pair_made c.args.before.now (record { units = c.args.after; unit = c.loop-number.number })) (λ (p : Option UnitPair). pair_there p ≡ pair_in us b vs)
    (λ p is.
    pair_found cs c.args.after.now us vs are too b c.loop-number.number (get_or cs b c.index-before-before.result) c.index-after-number.result c.requires
    (ap (λ (x : UnitText). get_or cs b x) c.index-before-before.is)
    c.loop-number-test.true c.index-after-number.is c.is_same_unit.result c.is_same_unit.ensures (pair_there p) is (c.loop-number.invariant us vs are too) c.if-is_same_unit.true)
    c.pair_at.result c.pair_at.ensures.pair

pub loop-number-preserved : goal.loop-number-preserved
loop-number-preserved c us vs are too =
    let cs = c.args.before.now.units.now in
    let b = c.args.before.now.unit in
    pair_not_yet cs c.args.after.now us vs are too b c.loop-number.number (get_or cs b c.index-before-before.result) c.index-after-number.result c.requires
    (ap (λ (x : UnitText). get_or cs b x) c.index-before-before.is)
    c.loop-number-test.true c.index-after-number.is c.is_same_unit.result c.is_same_unit.ensures (c.loop-number.invariant us vs are too) c.if-is_same_unit.false

pub returns-clause-pair : goal.returns-clause-pair
returns-clause-pair c us vs are too = no_pair c.args.after.now us vs too c.args.before.now.unit c.loop-number.number (omega (arith, c.loop-number-test.false)) (c.loop-number.invariant us vs are too)
