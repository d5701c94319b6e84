use Rattle.std.proofs.Common.{◌++◌, List, refl, ap, ◌∙◌}
use Rattle.scheme_model.specs.Order.{splice}
use Rattle.form_parts.specs.declared.items.Form as code_form
use Rattle.expander.proofs.PassLaws.{splice_goes, splice_fails, goes_err}
use Rattle.expander.proofs.passes.splice.Goals as goal
use Rattle.noted_steps.specs.Noting.{noting}

pub returns-in_err-count : goal.returns-in_err-count
returns-in_err-count c = λ known work region ls s spot fs asked ts p given stands placed stand named pending notes less.
    let u = c.args.units.now in
    let v = c.count.new.self in
    let e = c.in_err-count.field-0.0 in
    goes_err region ls spot fs p.todo given c.args.pending.now asked work work u v c.from_residual.result e (λ go. splice (noting known) go c.args.here p ts s) c.from_residual.ensures.1
    (splice_fails known work region u v ls s spot fs asked c.args.here c.args.forms.now ts p given c.args.pending.now c.args.pending.now stands placed notes e c.in_err-count.ensures)

pub returns : goal.returns
returns c = λ known work region ls s spot fs asked ts p given stands placed stand named pending notes less.
    let old = c.args.pending.now in
    splice_goes known work region c.args.units.now c.count.new.self ls s spot fs asked c.args.here c.args.forms.now ts p given old (record old { todo = c.append.new.self }) stands placed notes stand named pending less c.in_ok-count.ensures
    (c.in_ok-append.ensures.items ∙ ap (λ (xs : List code_form.Form). old.todo.items ++ xs) c.in_ok-todo.ensures) (refl, refl)
