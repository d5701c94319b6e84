use Rattle.std.proofs.Common.{◌∷◌, ◌+◌, [], ◌++◌, Err, drop, refl, sym, append-nil, arith}
use Rattle.included_forms.proofs.Planned.{plans_err, plans_same, from_first, from_more, from_fails, from_end}
use Rattle.included_forms.proofs.PlanLaws.{own_given, own_more}
use Rattle.included_forms.proofs.plans.own_forms.Goals as goal

pub loop-datum-init : goal.loop-datum-init
loop-datum-init c = λ t. from_first t c.args.document (own_given t c.args.document) c.args.«data».now c.args.steps.now.items

pub loop-datum-preserved : goal.loop-datum-preserved
loop-datum-preserved c = λ t.
    let n = c.args.document in
    let ds = c.args.«data».now in
    let i = c.loop-datum.datum-index in
    let d = c.datum-item.result in
    from_more t n (own_given t n) ds i d (own_given t n (d ∷ [])) c.args.steps.now.items c.loop-datum.steps.items c.own_form.new.steps.items (omega arith) c.datum-item.is (own_more t n d (drop (i + 1) ds)) (c.loop-datum.invariant t)
    (c.in_ok-own_form.ensures t)

pub returns-in_err-own_form : goal.returns-in_err-own_form
returns-in_err-own_form c = λ t.
    let n = c.args.document in
    let ds = c.args.«data».now in
    let i = c.loop-datum.datum-index in
    let d = c.datum-item.result in
    let old = c.args.steps.now.items in
    let new = c.own_form.new.steps.items in
    let g = c.in_err-own_form.field-0.0 in
    let all = own_given t n ds in
    plans_err t n old new c.from_residual.result g all c.from_residual.ensures.1
    (plans_same t n old new (Err g) (all ++ []) all (sym (append-nil all))
    (from_fails t n (own_given t n) ds i d (own_given t n (d ∷ [])) old c.loop-datum.steps.items new (omega arith) c.datum-item.is (own_more t n d (drop (i + 1) ds)) (c.loop-datum.invariant t) g [] (c.in_err-own_form.ensures t)))

pub returns : goal.returns
returns c = λ t. from_end t c.args.document (own_given t c.args.document) c.args.«data».now c.loop-datum.datum-index c.args.steps.now.items c.loop-datum.steps.items (omega arith) refl (c.loop-datum.invariant t)
