use Rattle.std.proofs.Common.{◌∷◌, ◌+◌, [], Err, drop, refl, sym, map, ◌++◌, append-nil, arith}
use Rattle.datum_reader.specs.Views.{datum_of, data_of}
use Rattle.included_strings.specs.Strings.{strings_among}
use Rattle.included_forms.specs.Steps.{text_by}
use Rattle.included_forms.proofs.Planned.{plans_err, plans_same, from_first, from_more, from_fails, from_end}
use Rattle.included_forms.proofs.StringLaws.{texts_more}
use Rattle.included_forms.proofs.strings.push_texts.Goals as goal

pub loop-datum-init : goal.loop-datum-init
loop-datum-init c = λ t n. from_first t n (λ ds. map (text_by t c.args.way n) (strings_among (data_of ds))) c.args.strings.now c.args.steps.now.items

pub loop-datum-preserved : goal.loop-datum-preserved
loop-datum-preserved c = λ t n.
    let f = text_by t c.args.way n in
    let ds = c.args.strings.now in
    let d = c.datum-item.result in
    let i = c.loop-datum.datum-index in
    from_more t n (λ ds. map f (strings_among (data_of ds))) ds i d (map f (strings_among (datum_of d ∷ []))) c.args.steps.now.items c.loop-datum.steps.items c.push_text.new.steps.items (omega arith) c.datum-item.is
    (texts_more f (datum_of d) (data_of (drop (i + 1) ds))) (c.loop-datum.invariant t n) (c.in_ok-push_text.ensures t n)

pub returns-in_err-push_text : goal.returns-in_err-push_text
returns-in_err-push_text c = λ t n.
    let f = text_by t c.args.way n in
    let ds = c.args.strings.now in
    let d = c.datum-item.result in
    let i = c.loop-datum.datum-index in
    let old = c.args.steps.now.items in
    let new = c.push_text.new.steps.items in
    let g = c.in_err-push_text.field-0.0 in
    let all = map f (strings_among (data_of ds)) in
    plans_err t n old new c.from_residual.result g all c.from_residual.ensures.1
    (plans_same t n old new (Err g) (all ++ []) all (sym (append-nil all))
    (from_fails t n (λ ds. map f (strings_among (data_of ds))) ds i d (map f (strings_among (datum_of d ∷ []))) old c.loop-datum.steps.items new (omega arith) c.datum-item.is
    (texts_more f (datum_of d) (data_of (drop (i + 1) ds))) (c.loop-datum.invariant t n) g [] (c.in_err-push_text.ensures t n)))

pub returns : goal.returns
returns c = λ t n. from_end t n (λ ds. map (text_by t c.args.way n) (strings_among (data_of ds))) c.args.strings.now c.loop-datum.datum-index c.args.steps.now.items c.loop-datum.steps.items (omega arith) refl (c.loop-datum.invariant t n)
