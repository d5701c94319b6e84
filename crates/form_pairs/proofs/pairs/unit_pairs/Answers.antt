use Rattle.std.proofs.Common.{◌∙◌, ◌++◌, map, All, IfSome, Option, sym, ap, subst, arith}
use Rattle.std.specs.Prelude.{Vec}
use Rattle.std.specs.declared.alloc.Global.{Global}
use Rattle.form_pairs.specs.declared.pairs.UnitPair.{UnitPair}
use Rattle.std.proofs.lemmas.List.{append-nil}
use Rattle.form_pairs.specs.Found.{IsCounted, pair_seen, pair_there}
use Rattle.form_pairs.proofs.PairLaws.{one_more, all_done, all_more, pushed}
use Rattle.form_pairs.proofs.pairs.unit_pairs.Goals.{in-Some+in_ok-push, in_default}
use Rattle.form_pairs.proofs.pairs.unit_pairs.Goals as goal

pub loop-unit-preserved : goal.loop-unit-preserved
loop-unit-preserved c = record {
  pairs = λ us vs are too.
      one_more c.args.before.now us vs are c.loop-unit.unit c.loop-unit-test.true c.loop-unit.pairs.items c.match-branch-2.pairs.items c.in_ok-pair.field-0
      (elim c.match-branch-2.branch [
        | in-Some+in_ok-push w ↦ ap (λ (v : Vec UnitPair Global). map pair_seen v.items) w.pairs-is ∙ pushed c.loop-unit.pairs.items w.push.new.self.items w.in-Some.pair w.in_ok-push.ensures.items
            ∙ ap (λ (o : Option UnitPair). map pair_seen c.loop-unit.pairs.items ++ pair_there o) (sym w.in-Some.is)
        | in_default w ↦ ap (λ (v : Vec UnitPair Global). map pair_seen v.items) w.pairs-is ∙ sym (append-nil (map pair_seen c.loop-unit.pairs.items))
            ∙ ap (λ (o : Option UnitPair). map pair_seen c.loop-unit.pairs.items ++ pair_there o) (sym w.in_default.is)
      ])
      (c.in_ok-pair.ensures.pair us vs are too) (c.loop-unit.invariant.pairs us vs are too);
  counted = elim c.match-branch-2.branch [
    | in-Some+in_ok-push w ↦ all_more (IsCounted c.args.before.now c.args.after.now) c.loop-unit.pairs.items c.match-branch-2.pairs.items w.in-Some.pair
        (ap (λ (v : Vec UnitPair Global). v.items) w.pairs-is ∙ w.in_ok-push.ensures.items) c.loop-unit.invariant.counted
        (subst (λ (o : Option UnitPair). IfSome o (IsCounted c.args.before.now c.args.after.now)) w.in-Some.is c.in_ok-pair.ensures.counted)
    | in_default w ↦ subst (λ (v : Vec UnitPair Global). All (IsCounted c.args.before.now c.args.after.now) v.items) (sym w.pairs-is) c.loop-unit.invariant.counted
  ];
}

pub returns-clause-pairs : goal.returns-clause-pairs
returns-clause-pairs c us vs are too = all_done c.args.before.now us vs are c.loop-unit.unit c.loop-unit.pairs.items (omega (arith, c.loop-unit-test.false)) (c.loop-unit.invariant.pairs us vs are too)
