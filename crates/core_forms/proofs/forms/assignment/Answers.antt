use Rattle.std.proofs.Common.{◌∙◌, refl, true, Ok}
use Rattle.scheme_model.specs.Keywords.{IsSet}
use Rattle.scheme_model.specs.Shapes.{named_tree_of}
use Rattle.core_forms.specs.Forms.{Assignment, shape_of}
use Rattle.core_forms.specs.Ends.{ShapeFor}
use Rattle.core_forms.proofs.Reading.{then_err, then_ok}
use Rattle.core_forms.proofs.forms.assignment.Goals as goal

pub returns-in_err-named-clause-read : goal.returns-in_err-named-clause-read
returns-in_err-named-clause-read c = λ mark ts tail stands ends.
    let w = c.args.work.now in
    then_err w (ShapeFor w) (named_tree_of ts tail) (λ p. Ok (Assignment p)) (shape_of IsSet true mark ts tail) c.from_residual.result c.in_err-named.field-0.0
    (refl) c.from_residual.ensures.1 (c.in_err-named.ensures.read ts tail stands ends)

pub returns-clause-read : goal.returns-clause-read
returns-clause-read c = λ mark ts tail stands ends.
    let w = c.args.work.now in
    let p = c.in_ok-named.ensures.read ts tail stands ends in
    ((Assignment p.0), refl ∙ then_ok (named_tree_of ts tail) (λ p. Ok (Assignment p)) p.0 p.1, (_, (_, refl, p.2.0, p.2.1)))
