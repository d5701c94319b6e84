use Rattle.std.proofs.Common.{◌∙◌, refl, Ok}
use Rattle.scheme_model.specs.Shapes.{Variable, named_tree_of}
use Rattle.core_forms.specs.Steps.{variable_of}
use Rattle.core_forms.specs.Ends.{IsDefinition}
use Rattle.core_forms.proofs.Reading.{then_err, then_ok}
use Rattle.core_forms.proofs.definition.variable_of.Goals as goal

pub returns-in_err-named-clause-read : goal.returns-in_err-named-clause-read
returns-in_err-named-clause-read c = λ ts tail stands ends.
    let w = c.args.work.now in
    then_err w (IsDefinition w) (named_tree_of ts tail) (λ p. Ok (Variable p.0 p.1)) (variable_of ts tail) c.from_residual.result c.in_err-named.field-0.0
    (refl) c.from_residual.ensures.1 (c.in_err-named.ensures.read ts tail stands ends)

pub returns-clause-read : goal.returns-clause-read
returns-clause-read c = λ ts tail stands ends.
    let w = c.args.work.now in
    let p = c.in_ok-named.ensures.read ts tail stands ends in
    ((Variable p.0.0 p.0.1), refl ∙ then_ok (named_tree_of ts tail) (λ p. Ok (Variable p.0 p.1)) p.0 p.1, (_, (_, refl, p.2.0, p.2.1)))
