use Rattle.std.proofs.Common.{◌≡◌, ◌+◌, ◌-◌, List, length, drop, sym, ap, ◌∙◌, arith}
use Rattle.std.proofs.lemmas.List.{at_drop_all}
use Rattle.included_forms.specs.declared.given.Given.{Given}
use Rattle.included_forms.specs.Counted.{tally_of, all_given}
use Rattle.included_forms.proofs.TableLaws.{tally_more}
use Rattle.included_forms.proofs.counting.count_steps.Goals as goal

pub loop-left-init : goal.loop-left-init
loop-left-init c = record {
  within = omega arith;
  counted = λ gs h. c.bad_count-behind.ensures c.args.limit gs ∙ sym (at_drop_all (λ (xs : List Given). tally_of (all_given c.args.limit gs xs c.args.bad)) c.args.steps.now (length c.args.steps.now) (omega arith));
}

pub loop-left-preserved : goal.loop-left-preserved
loop-left-preserved c = record {
  within = omega arith;
  counted = λ gs h.
      let limit = c.args.limit in
      let steps = c.args.steps.now in
      let i = c.loop-left.left - 1 in
      let next : c.loop-left.left ≡ i + 1 = omega arith in
      tally_more limit gs steps c.args.bad i c.index-steps-left.result c.step_count-first.result c.loop-left.behind c.followed-behind.result (omega arith) c.index-steps-left.is (c.step_count-first.ensures gs h)
      (c.loop-left.invariant.counted gs h ∙ ap (λ n. tally_of (all_given limit gs (drop n steps) c.args.bad)) next) c.followed-behind.ensures;
}

pub returns : goal.returns
returns c = λ gs h.
    let none : c.loop-left.left ≡ 0 = omega arith in
    c.loop-left.invariant.counted gs h ∙ ap (λ n. tally_of (all_given c.args.limit gs (drop n c.args.steps.now) c.args.bad)) none
