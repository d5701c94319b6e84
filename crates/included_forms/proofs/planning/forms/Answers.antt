use Rattle.std.proofs.Common.{◌∷◌, [], ◌++◌, Err, refl, sym, map, append-nil, arith}
use Rattle.scheme_model.specs.Data.{Datum}
use Rattle.scheme_model.specs.Included.{form_or_texts}
use Rattle.datum_reader.specs.Views.{datum_of, data_of}
use Rattle.included_forms.specs.Steps.{from}
use Rattle.included_forms.proofs.Planned.{plans_err, plans_same, from_first, from_more, from_fails, from_end}
use Rattle.included_forms.proofs.planning.forms.Goals as goal

pub loop-datum-init : goal.loop-datum-init
loop-datum-init c = λ t. from_first t c.args.origin.document (λ ds. map (λ d. form_or_texts t (from c.args.origin d)) (data_of ds)) c.args.parts.now c.args.steps.now.items

pub loop-datum-preserved : goal.loop-datum-preserved
loop-datum-preserved c = λ t.
    let f = λ (d : Datum). form_or_texts t (from c.args.origin d) in
    from_more t c.args.origin.document (λ ds. map f (data_of ds)) c.args.parts.now c.loop-datum.datum-index c.datum-item.result (f (datum_of c.datum-item.result) ∷ []) c.args.steps.now.items c.loop-datum.steps.items c.form_or_texts.new.steps.items
    (omega arith) c.datum-item.is refl (c.loop-datum.invariant t) (c.in_ok-form_or_texts.ensures t)

pub returns-in_err-form_or_texts : goal.returns-in_err-form_or_texts
returns-in_err-form_or_texts c = λ t.
    let n = c.args.origin.document in
    let f = λ (d : Datum). form_or_texts t (from c.args.origin d) in
    let ds = c.args.parts.now in
    let old = c.args.steps.now.items in
    let new = c.form_or_texts.new.steps.items in
    let g = c.in_err-form_or_texts.field-0.0 in
    let all = map f (data_of ds) in
    plans_err t n old new c.from_residual.result g all c.from_residual.ensures.1
    (plans_same t n old new (Err g) (all ++ []) all (sym (append-nil all))
    (from_fails t n (λ xs. map f (data_of xs)) ds c.loop-datum.datum-index c.datum-item.result (f (datum_of c.datum-item.result) ∷ []) old c.loop-datum.steps.items new (omega arith) c.datum-item.is refl (c.loop-datum.invariant t) g []
    (c.in_err-form_or_texts.ensures t)))

pub returns : goal.returns
returns c = λ t. from_end t c.args.origin.document (λ ds. map (λ d. form_or_texts t (from c.args.origin d)) (data_of ds)) c.args.parts.now c.loop-datum.datum-index c.args.steps.now.items c.loop-datum.steps.items (omega arith) refl (c.loop-datum.invariant t)
