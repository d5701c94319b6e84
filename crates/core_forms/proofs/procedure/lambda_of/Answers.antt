use Rattle.std.proofs.Common.{sym, ◌∙◌, subst, refl, List, Ok}
use Rattle.scheme_model.specs.ExpansionFaults.{◌>>◌}
use Rattle.scheme_model.specs.Ident.{same_ident}
use Rattle.core_forms.specs.declared.shape.NamePart.{NamePart}
use Rattle.scheme_model.specs.Shapes.{clause_in, lambda_of, distinct}
use Rattle.core_forms.specs.Parts.{AllMatch, IsName, IsClause}
use Rattle.core_forms.proofs.Reading.{then_err, then_ok}
use Rattle.core_forms.proofs.procedure.lambda_of.Goals as goal

pub returns-in_err-clause-clause-read : goal.returns-in_err-clause-clause-read
returns-in_err-clause-clause-read c = λ ts tail stands ends.
    let w = c.args.work.now in
    then_err w (IsClause w) (clause_in ts tail) (λ d. distinct same_ident d.formals.names >> λ u. Ok d) (lambda_of same_ident ts tail) c.from_residual.result c.in_err-clause.field-0.0
    (refl) c.from_residual.ensures.1 (c.in_err-clause.ensures.read ts tail stands ends)

pub returns-in_err-distinct-clause-read : goal.returns-in_err-distinct-clause-read
returns-in_err-distinct-clause-read c = λ ts tail stands ends.
    let w = c.args.work.now in
    let d = c.in_ok-clause.ensures.read ts tail stands ends in
    let are = subst (λ (ns : List NamePart). AllMatch (IsName w) ns d.0.formals.names) (sym c.as_slice.ensures.value) d.2.formals.names in
    then_err w (IsClause w) (distinct same_ident d.0.formals.names) (λ u. Ok d.0) (lambda_of same_ident ts tail) c.from_residual-in_err-distinct.result c.in_err-distinct.field-0.0
    (refl ∙ then_ok (clause_in ts tail) (λ d. distinct same_ident d.formals.names >> λ u. Ok d) d.0 d.1) c.from_residual-in_err-distinct.ensures.1 (c.in_err-distinct.ensures d.0.formals.names are)

pub returns-clause-read : goal.returns-clause-read
returns-clause-read c = λ ts tail stands ends.
    let w = c.args.work.now in
    let d = c.in_ok-clause.ensures.read ts tail stands ends in
    let are = subst (λ (ns : List NamePart). AllMatch (IsName w) ns d.0.formals.names) (sym c.as_slice.ensures.value) d.2.formals.names in
    let u = c.in_ok-distinct.ensures d.0.formals.names are in
    (d.0, refl ∙ then_ok (clause_in ts tail) (λ d. distinct same_ident d.formals.names >> λ u. Ok d) d.0 d.1 ∙ then_ok (distinct same_ident d.0.formals.names) (λ u. Ok d.0) u.0 u.1, d.2)
