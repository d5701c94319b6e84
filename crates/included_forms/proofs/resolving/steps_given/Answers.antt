use Rattle.std.proofs.Common.{◌++◌, ◌∷◌, [], List, take, map, sym, ap, ◌∙◌, arith}
use Rattle.std.proofs.lemmas.List.{map-append, take_more, take_all}
use Rattle.included_forms.specs.declared.given.Given.{Given}
use Rattle.included_forms.specs.declared.steps.Step.{Step}
use Rattle.included_forms.specs.Steps.{given_by}
use Rattle.included_forms.specs.Counted.{listing_of}
use Rattle.included_forms.specs.Tables.{givens}
use Rattle.included_forms.proofs.resolving.steps_given.Goals as goal

pub loop-step-preserved : goal.loop-step-preserved
loop-step-preserved c = λ o t ms s m p.
    let f = listing_of (givens o t ms) in
    let g = given_by t c.args.document in
    let steps = c.args.steps.now in
    let i = c.loop-step.step-index in
    let step = c.step-item.result in
    ap (λ (xs : List Given). map f xs) c.in_ok-push.ensures.items ∙ map-append f c.loop-step.all.items (c.in_ok-given.given ∷ [])
    ∙ (λ j. c.loop-step.invariant o t ms s m p j ++ c.in_ok-given.ensures o t ms s m p j ∷ []) ∙ sym (map-append g (take i steps) (step ∷ []))
    ∙ ap (λ (xs : List Step). map g xs) (ap (λ (x : Step). take i steps ++ x ∷ []) c.step-item.is ∙ sym (take_more steps i step (omega arith)))

pub returns : goal.returns
returns c = λ o t ms s m p.
    c.loop-step.invariant o t ms s m p ∙ ap (λ (xs : List Step). map (given_by t c.args.document) xs) (take_all c.loop-step.step-index c.args.steps.now (omega arith))
