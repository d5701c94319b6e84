use Rattle.std.proofs.Common.{ap, ◌∙◌, refl, Bool, Ok}
use Rattle.scheme_model.specs.Keywords.{IsBegin}
use Rattle.scheme_model.specs.Shapes.{some_of, proper_of}
use Rattle.core_forms.specs.Forms.{Sequence, shape_of}
use Rattle.core_forms.proofs.Reading.{then_ok}
use Rattle.core_forms.proofs.forms.sequence.Goals as goal

pub returns-then-expression-clause-read : goal.returns-then-expression-clause-read
returns-then-expression-clause-read c = λ mark ts tail stands ends.
    let us = c.in_ok-some_of.ensures.read ts tail stands ends in
    (Sequence us.0, ap (λ (b : Bool). shape_of IsBegin b mark ts tail) c.if-expression.true ∙ then_ok (some_of ts tail) (λ us. Ok (Sequence us)) us.0 us.1, (_, refl, us.2))

pub returns-clause-read : goal.returns-clause-read
returns-clause-read c = λ mark ts tail stands ends.
    let us = c.in_ok-proper_of.ensures.read ts tail stands ends in
    (Sequence us.0, ap (λ (b : Bool). shape_of IsBegin b mark ts tail) c.if-expression.false ∙ then_ok (proper_of ts tail) (λ us. Ok (Sequence us)) us.0 us.1, (_, refl, us.2))
