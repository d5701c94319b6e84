use Rattle.std.proofs.Common.{ℕ, suc, List, drop, sym, ap, ◌∙◌, add-one, subst}
use Rattle.std.specs.Prelude.{Result}
use Rattle.scheme_model.specs.ExpansionFaults.{Fault, ◌>>◌}
use Rattle.scheme_model.specs.Shapes.{Clause, distinct, distinct_all}
use Rattle.scheme_model.specs.Ident.{Ident as Identifier, same_ident}
use Rattle.core_forms.specs.declared.shape.NamePart.{NamePart}
use Rattle.core_forms.specs.Parts.{AllMatch, IsName}
use Rattle.core_forms.proofs.Reading.{then_err}
use Rattle.core_forms.proofs.Distinct.{clause_there, clauses_past}
use Rattle.core_forms.proofs.procedure.distinct_all.Goals as goal

pub returns-in_err-distinct : goal.returns-in_err-distinct
returns-in_err-distinct c = λ cs are.
    let w = c.args.work.now in
    let k = c.loop-clause.clause-index in
    let p = clause_there w k c.args.clauses.now cs c.clause-item.result are c.loop-clause-test.true c.clause-item.is in
    let e = c.in_err-distinct.field-0.0 in
    let names = subst (λ (ns : List NamePart). AllMatch (IsName w) ns p.clause.formals.names) (sym c.as_slice.ensures.value) p.is.formals.names in
    then_err w (λ done also. Unit {0}) (distinct same_ident p.clause.formals.names) (λ done. distinct_all same_ident (drop (suc k) cs)) (distinct_all same_ident cs) c.from_residual.result e
    (c.loop-clause.invariant cs are ∙ ap (distinct_all same_ident) p.split) c.from_residual.ensures.1 (c.in_err-distinct.ensures p.clause.formals.names names)

pub loop-clause-preserved : goal.loop-clause-preserved
loop-clause-preserved c = λ cs are.
    let w = c.args.work.now in
    let k = c.loop-clause.clause-index in
    let p = clause_there w k c.args.clauses.now cs c.clause-item.result are c.loop-clause-test.true c.clause-item.is in
    let names = subst (λ (ns : List NamePart). AllMatch (IsName w) ns p.clause.formals.names) (sym c.as_slice.ensures.value) p.is.formals.names in
    let done = c.in_ok-distinct.ensures p.clause.formals.names names in
    c.loop-clause.invariant cs are ∙ ap (distinct_all same_ident) p.split ∙ ap (λ (x : Result (Unit {0}) (Fault Identifier)). x >> λ done. distinct_all same_ident (drop (suc k) cs)) done.1
    ∙ ap (λ (j : ℕ). distinct_all same_ident (drop j cs)) (sym (add-one k))

pub returns : goal.returns
returns c = λ cs are.
    (tt, c.loop-clause.invariant cs are ∙ ap (λ (xs : List (Clause Identifier)). distinct_all same_ident xs) (clauses_past c.args.work.now c.loop-clause.clause-index c.args.clauses.now cs are c.loop-clause-test.false), tt)
