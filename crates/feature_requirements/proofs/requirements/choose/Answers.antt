use Rattle.std.proofs.Common.{◌≡◌, ◌<◌, ℕ, length, Option, Some, Ok, ap, ◌∙◌, subst}
use Rattle.std.specs.Prelude.{IfSome}
use Rattle.feature_requirements.specs.Judged.{chosen_among, forms_of}
use Rattle.feature_requirements.proofs.requirements.choose.Goals as goal

pub clause_forms-requires : goal.clause_forms-requires
clause_forms-requires c = subst (λ (o : Option ℕ). IfSome o (λ j. j < length c.args.choices.now)) c.in-Some.is c.in-Ok.ensures.within

pub returns-in-None-clause-chosen : goal.returns-in-None-clause-chosen
returns-in-None-clause-chosen c = λ known ps knows h. c.in-Ok.ensures.chosen known ps knows h ∙ ap (λ (o : Option ℕ). Ok (forms_of ps o)) c.in-None.is

pub returns-in_ok-clause_forms-in-Some-clause-chosen : goal.returns-in_ok-clause_forms-in-Some-clause-chosen
returns-in_ok-clause_forms-in-Some-clause-chosen c = λ known ps knows h.
    let e : chosen_among known ps ≡ Ok (forms_of ps (Some c.in-Some.place)) = c.in-Ok.ensures.chosen known ps knows h ∙ ap (λ (o : Option ℕ). Ok (forms_of ps o)) c.in-Some.is in
    let f = c.in_ok-clause_forms-in-Some.ensures.chosen c.args.judge.work.now ps h in
    (f.0, e ∙ ap Ok f.1, f.2)

pub returns-in_ok-clause_forms-in-Some-clause-named : goal.returns-in_ok-clause_forms-in-Some-clause-named
returns-in_ok-clause_forms-in-Some-clause-named c = λ region h. c.in_ok-clause_forms-in-Some.ensures.named c.args.judge.work.now region h
