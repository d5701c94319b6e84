use Rattle.std.proofs.Common.{◌<◌, ℕ, length, Option, sym, subst}
use Rattle.std.specs.Prelude.{IfSome}
use Rattle.feature_requirements.specs.Judged.{chosen_among, forms_of}
use Rattle.feature_requirements.proofs.JudgeLaws.{reads_err}
use Rattle.feature_requirements.proofs.ChoiceLaws.{clause_there, clauses_past, last_is, choice_more, choice_fails, choice_all, first_within}
use Rattle.feature_requirements.proofs.requirements.Judge.chosen.Goals as goal

pub clause_holds-requires : goal.clause_holds-requires
clause_holds-requires c =
    let q = clause_there c.args.self.now.work.now c.loop-k.k c.args.choices.now c.requires.0 c.index-choices-k.result c.requires.1 c.loop-k-test.true in
    (q.clause.0, q.matches.0)

pub returns-in_err-here-clause-chosen : goal.returns-in_err-here-clause-chosen
returns-in_err-here-clause-chosen c = λ known ps knows h.
    let w = c.args.self.now.work.now in
    let k = c.loop-k.k in
    let cs = c.args.choices.now in
    let e = c.in_err-here.field-0.0 in
    let q = clause_there w k cs ps c.index-choices-k.result h c.loop-k-test.true in
    reads_err (forms_of ps) c.from_residual.result e (chosen_among known ps) c.from_residual.ensures.1
    (choice_fails w known ps k _ q (chosen_among known ps) c.loop-k.chosen _ e (last_is w k cs ps h c.loop-k-test.true) (c.loop-k.invariant.so_far known ps knows h) (c.in_err-here.ensures known q.clause.0 knows q.matches.0))

pub loop-k-preserved : goal.loop-k-preserved
loop-k-preserved c =
    let w = c.args.self.now.work.now in
    let k = c.loop-k.k in
    let cs = c.args.choices.now in
    record {
      so_far = λ known ps knows h.
          let q = clause_there w k cs ps c.index-choices-k.result h c.loop-k-test.true in
          choice_more w known ps k _ q (chosen_among known ps) c.loop-k.chosen c.or_first-next.result _ c.in_ok-here.here (last_is w k cs ps h c.loop-k-test.true) (c.loop-k.invariant.so_far known ps knows h)
          (c.in_ok-here.ensures known q.clause.0 knows q.matches.0) c.or_first-next.ensures;
      within = subst (λ (o : Option ℕ). IfSome o (λ j. j < length cs)) (sym c.or_first-next.ensures) (first_within c.loop-k.chosen c.in_ok-here.here k (length cs) c.loop-k.invariant.within c.loop-k-test.true);
    }

pub returns-clause-chosen : goal.returns-clause-chosen
returns-clause-chosen c = λ known ps knows h.
    choice_all known ps c.loop-k.k c.loop-k.chosen (chosen_among known ps) (c.loop-k.invariant.so_far known ps knows h) (clauses_past c.args.self.now.work.now c.loop-k.k c.args.choices.now ps h c.loop-k-test.false)
