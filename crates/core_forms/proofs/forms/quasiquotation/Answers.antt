use Rattle.std.proofs.Common.{◌∙◌, refl, true, Ok}
use Rattle.scheme_model.specs.ExpansionFaults.{◌>>◌}
use Rattle.scheme_model.specs.Keywords.{IsQuasiquote}
use Rattle.scheme_model.specs.Quasiquote.{quasi_of}
use Rattle.scheme_model.specs.Shapes.{one_of}
use Rattle.core_forms.specs.Forms.{Quasi, shape_of}
use Rattle.core_forms.specs.Ends.{ShapeFor}
use Rattle.core_forms.proofs.Reading.{then_err, then_ok}
use Rattle.core_forms.proofs.forms.quasiquotation.Goals as goal

pub holes_of-requires : goal.holes_of-requires
holes_of-requires c = let d = c.in_ok-datum.ensures.read c.requires.parts.0 c.requires.tail.0 c.requires.parts.1 c.requires.tail.1 in (d.0, d.2)

pub returns-in_err-datum-clause-read : goal.returns-in_err-datum-clause-read
returns-in_err-datum-clause-read c = λ mark ts tail marks stands ends.
    let w = c.args.work.now in
    then_err w (ShapeFor w) (one_of ts tail) (λ t. quasi_of mark t >> λ p. Ok (Quasi t p)) (shape_of IsQuasiquote true mark ts tail) c.from_residual.result c.in_err-datum.field-0.0
    (refl) c.from_residual.ensures.1 (c.in_err-datum.ensures.read ts tail stands ends)

pub returns-in_err-found-clause-read : goal.returns-in_err-found-clause-read
returns-in_err-found-clause-read c = λ mark ts tail marks stands ends.
    let w = c.args.work.now in
    let t = c.in_ok-datum.ensures.read ts tail stands ends in
    then_err w (ShapeFor w) (quasi_of mark t.0) (λ p. Ok (Quasi t.0 p)) (shape_of IsQuasiquote true mark ts tail) c.from_residual-in_err-found.result c.in_err-found.field-0.0
    (refl ∙ then_ok (one_of ts tail) (λ t. quasi_of mark t >> λ p. Ok (Quasi t p)) t.0 t.1) c.from_residual-in_err-found.ensures.1 (c.in_err-found.ensures.read mark t.0 marks t.2)

pub returns-clause-read : goal.returns-clause-read
returns-clause-read c = λ mark ts tail marks stands ends.
    let w = c.args.work.now in
    let t = c.in_ok-datum.ensures.read ts tail stands ends in
    let p = c.in_ok-found.ensures.read mark t.0 marks t.2 in
    ((Quasi t.0 p.0), refl ∙ then_ok (one_of ts tail) (λ t. quasi_of mark t >> λ p. Ok (Quasi t p)) t.0 t.1 ∙ then_ok (quasi_of mark t.0) (λ p. Ok (Quasi t.0 p)) p.0 p.1, (_, (_, (_, refl, t.2, p.2.0, p.2.1))))

pub returns-clause-named : goal.returns-clause-named
returns-clause-named c = λ region named.
    let d = c.in_ok-datum.ensures.named region named in
    (d, c.in_ok-found.ensures.named region d)
