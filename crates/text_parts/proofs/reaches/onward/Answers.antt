use Rattle.std.proofs.Common.{◌≡◌, ℕ, suc, ◌+◌, ◌-◌, List, length, sym, ap, ◌∙◌, subst, arith}
use Rattle.std.specs.Prelude.{Bool}
use Rattle.scheme_model.specs.Includes.{named_by, names_on, with_named}
use Rattle.text_parts.specs.Marks.{AreNext, Marks}
use Rattle.text_parts.proofs.ReachLaws.{settled}
use Rattle.text_parts.proofs.reaches.onward.Goals as goal

pub loop-step-init : goal.loop-step-init
loop-step-init c = λ all h.
    let whole : length c.args.rows.now - 0 ≡ length all = omega (arith, h.size) in
    (named_by all c.args.document, c.in_ok-marks.ensures all h, ap (λ (k : ℕ). names_on all k (named_by all c.args.document)) whole)

pub loop-step-preserved : goal.loop-step-preserved
loop-step-preserved c = λ all h.
    let w = c.loop-step.invariant all h in
    let left : length c.args.rows.now - c.loop-step._step ≡ suc (length c.args.rows.now - (c.loop-step._step + 1)) = omega arith in
    let before = subst (λ (bs : List Bool). Marks bs (length all) w.0) (sym c.as_slice.ensures.value) w.1 in
    let next = subst (AreNext c.as_slice.result.now (length all) (with_named all 0 all w.0)) c.in-Some.is (c.in_ok-next_marks.ensures all w.0 h before) in
    (with_named all 0 all w.0, next, sym (ap (λ (k : ℕ). names_on all k w.0) left) ∙ w.2)

pub returns-in-None : goal.returns-in-None
returns-in-None c = λ all h.
    let w = c.loop-step.invariant all h in
    let marks = c.loop-step.marks.items in
    let before = subst (λ (bs : List Bool). Marks bs (length all) w.0) (sym c.as_slice.ensures.value) w.1 in
    let next = subst (AreNext c.as_slice.result.now (length all) (with_named all 0 all w.0)) c.in-None.is (c.in_ok-next_marks.ensures all w.0 h before) in
    subst (λ (ns : List ℕ). Marks marks (length all) ns) w.2
    (settled all marks (length c.args.rows.now - c.loop-step._step) w.0 w.1 (subst (λ (bs : List Bool). Marks bs (length all) (with_named all 0 all w.0)) c.as_slice.ensures.value next))

pub returns : goal.returns
returns c = λ all h.
    let w = c.loop-step.invariant all h in
    let left : length c.args.rows.now - c.loop-step._step ≡ 0 = omega arith in
    subst (λ (ns : List ℕ). Marks c.loop-step.marks.items (length all) ns) (sym (ap (λ (k : ℕ). names_on all k w.0) left) ∙ w.2) w.1
