use Rattle.std.proofs.Common.{◌<◌, ◌++◌, length, get_or, sym, ◌∙◌, arith}
use Rattle.scheme_model.specs.declared.Occ.{Occ}
use Rattle.program_leaves.specs.declared.pairs.Pair.{Pair}
use Rattle.arrow_index.specs.Binders.{targets_with}
use Rattle.program_leaves.proofs.Growing.{flat_next}
use Rattle.arrow_index.proofs.QueryLaws.{none_before, none_after, at_binder, one_target, uses_law}
use Rattle.arrow_index.proofs.queries.uses_of.Goals as goal

pub loop-k-init : goal.loop-k-init
loop-k-init c =
    (omega arith, c.new-uses.ensures ∙ sym (none_before c.args.binder c.args.pairs.now c.first_from-from.result (λ k d lt within. c.first_from-from.ensures.point.0 k d (omega arith) lt)))

pub loop-k-preserved : goal.loop-k-preserved
loop-k-preserved c =
    let ps = c.args.pairs.now in
    let b = c.args.binder in
    let k = c.loop-k.k in
    let none : Occ = record { unit = 0; form = 0; token = 0 } in
    let d : Pair = record { binder = none; target = none } in
    let here = get_or ps k d in
    let within : k < length ps = omega (arith, c.loop-k-test.true, c.first_after-to.ensures.bound) in
    let same = at_binder here.binder b (c.first_from-from.ensures.point.1 k d c.loop-k.invariant.0 within) (c.first_after-to.ensures.point.0 k d (omega arith) c.loop-k-test.true) in
    (omega (arith, c.loop-k.invariant.0), c.in_ok-push.ensures.ok ∙ (λ j. c.loop-k.invariant.1 j ++ sym (one_target b here same) j) ∙ sym (flat_next (targets_with b) ps k d within))

pub returns : goal.returns
returns c = λ arrows are.
    uses_law c.args.binder c.args.pairs.now arrows c.loop-k.uses are
    (c.loop-k.invariant.1 ∙ sym (none_after c.args.binder c.args.pairs.now c.loop-k.k (λ k d le within. c.first_after-to.ensures.point.1 k d (omega (arith, le)) within)))
