use Rattle.std.proofs.Common.{sym, ap, ◌∙◌, subst, List, Ok}
use Rattle.scheme_model.specs.Trees.{Tail}
use Rattle.scheme_model.specs.ExpansionFaults.{◌>>◌}
use Rattle.scheme_model.specs.Ident.{Ident as Identifier, same_ident}
use Rattle.syntax_tree.proofs.Looking.{no_end, some_end}
use Rattle.core_forms.specs.declared.shape.ClauseShape.{ClauseShape}
use Rattle.scheme_model.specs.Shapes.{clauses_in, case_lambda_of, distinct_all}
use Rattle.core_forms.specs.Parts.{AllMatch, IsClause, AreClauses}
use Rattle.core_forms.proofs.Reading.{then_err, then_ok}
use Rattle.core_forms.proofs.procedure.case_lambda_of.Goals as goal

pub returns-in_err-clauses-clause-read : goal.returns-in_err-clauses-clause-read
returns-in_err-clauses-clause-read c = λ ts tail stands ends.
    let w = c.args.work.now in
    let gone = no_end w c.args.end tail (sym c.is_some.ensures ∙ c.if-is_some.false) ends in
    then_err w (AreClauses w) (clauses_in ts) (λ d. distinct_all same_ident d >> λ u. Ok d) (case_lambda_of same_ident ts tail) c.from_residual.result c.in_err-clauses.field-0.0
    (ap (λ (x : Tail Identifier). case_lambda_of same_ident ts x) gone) c.from_residual.ensures.1 (c.in_err-clauses.ensures.read ts stands)

pub returns-in_err-distinct_all-clause-read : goal.returns-in_err-distinct_all-clause-read
returns-in_err-distinct_all-clause-read c = λ ts tail stands ends.
    let w = c.args.work.now in
    let gone = no_end w c.args.end tail (sym c.is_some.ensures ∙ c.if-is_some.false) ends in
    let d = c.in_ok-clauses.ensures.read ts stands in
    let are = subst (λ (ns : List ClauseShape). AllMatch (IsClause w) ns d.0) (sym c.as_slice.ensures.value) d.2 in
    then_err w (AreClauses w) (distinct_all same_ident d.0) (λ u. Ok d.0) (case_lambda_of same_ident ts tail) c.from_residual-in_err-distinct_all.result c.in_err-distinct_all.field-0.0
    (ap (λ (x : Tail Identifier). case_lambda_of same_ident ts x) gone ∙ then_ok (clauses_in ts) (λ d. distinct_all same_ident d >> λ u. Ok d) d.0 d.1) c.from_residual-in_err-distinct_all.ensures.1 (c.in_err-distinct_all.ensures d.0 are)

pub returns-clause-read : goal.returns-clause-read
returns-clause-read c = λ ts tail stands ends.
    let w = c.args.work.now in
    let gone = no_end w c.args.end tail (sym c.is_some.ensures ∙ c.if-is_some.false) ends in
    let d = c.in_ok-clauses.ensures.read ts stands in
    let are = subst (λ (ns : List ClauseShape). AllMatch (IsClause w) ns d.0) (sym c.as_slice.ensures.value) d.2 in
    let u = c.in_ok-distinct_all.ensures d.0 are in
    (d.0, ap (λ (x : Tail Identifier). case_lambda_of same_ident ts x) gone ∙ then_ok (clauses_in ts) (λ d. distinct_all same_ident d >> λ u. Ok d) d.0 d.1 ∙ then_ok (distinct_all same_ident d.0) (λ u. Ok d.0) u.0 u.1, d.2)

pub returns-then-is_some-clause-read : goal.returns-then-is_some-clause-read
returns-then-is_some-clause-read c = λ ts tail stands ends.
    ap (λ (x : Tail Identifier). case_lambda_of same_ident ts x) (some_end c.args.work.now c.args.end tail (sym c.is_some.ensures ∙ c.if-is_some.true) ends).1
