use Rattle.std.proofs.Common.{ap, ◌∙◌, Ok}
use Rattle.scheme_model.specs.Trees.{Trees}
use Rattle.scheme_model.specs.ExpansionFaults.{◌>>◌}
use Rattle.scheme_model.specs.Ident.{Ident as Identifier}
use Rattle.scheme_model.specs.Shapes.{clause_in, formals_of, some_of}
use Rattle.core_forms.specs.Parts.{IsClause}
use Rattle.core_forms.proofs.Reading.{then_err, then_ok}
use Rattle.core_forms.proofs.procedure.clause_in.Goals as goal

pub returns-in_err-formals-in-Parts-clause-read : goal.returns-in_err-formals-in-Parts-clause-read
returns-in_err-formals-in-Parts-clause-read c = λ ts tail stands ends.
    let w = c.args.work.now in
    let l = c.in-Parts.ensures.read ts stands in
    then_err w (IsClause w) (formals_of l.0) (λ f. some_of l.1 tail >> λ b. Ok (record { formals = f; body = b })) (clause_in ts tail) c.from_residual.result c.in_err-formals-in-Parts.field-0.0
    (ap (λ (x : Trees Identifier). clause_in x tail) l.2) c.from_residual.ensures.1 (c.in_err-formals-in-Parts.ensures l.0 l.3)

pub returns-in_err-body-in-Parts-clause-read : goal.returns-in_err-body-in-Parts-clause-read
returns-in_err-body-in-Parts-clause-read c = λ ts tail stands ends.
    let w = c.args.work.now in
    let l = c.in-Parts.ensures.read ts stands in
    let f = c.in_ok-formals-in-Parts.ensures l.0 l.3 in
    then_err w (IsClause w) (some_of l.1 tail) (λ b. Ok (record { formals = f.0; body = b })) (clause_in ts tail) c.from_residual-in_err-body-in-Parts.result c.in_err-body-in-Parts.field-0.0
    (ap (λ (x : Trees Identifier). clause_in x tail) l.2 ∙ then_ok (formals_of l.0) (λ f. some_of l.1 tail >> λ b. Ok (record { formals = f; body = b })) f.0 f.1) c.from_residual-in_err-body-in-Parts.ensures.1 (c.in_err-body-in-Parts.ensures.read l.1 tail l.4 ends)

pub returns-in_ok-body-in-Parts-clause-read : goal.returns-in_ok-body-in-Parts-clause-read
returns-in_ok-body-in-Parts-clause-read c = λ ts tail stands ends.
    let w = c.args.work.now in
    let l = c.in-Parts.ensures.read ts stands in
    let f = c.in_ok-formals-in-Parts.ensures l.0 l.3 in
    let b = c.in_ok-body-in-Parts.ensures.read l.1 tail l.4 ends in
    ((record { formals = f.0; body = b.0 }), ap (λ (x : Trees Identifier). clause_in x tail) l.2 ∙ then_ok (formals_of l.0) (λ f. some_of l.1 tail >> λ b. Ok (record { formals = f; body = b })) f.0 f.1 ∙ then_ok (some_of l.1 tail) (λ b. Ok (record { formals = f.0; body = b })) b.0 b.1, record { formals = f.2; body = b.2 })

pub returns-in_ok-body-in-Parts-clause-named : goal.returns-in_ok-body-in-Parts-clause-named
returns-in_ok-body-in-Parts-clause-named c = λ region named. c.in_ok-body-in-Parts.ensures.named region (c.in-Parts.ensures.named region named).1
