use Rattle.std.proofs.Common.{◌≡◌, ◌+◌, ◌∷◌, ◌++◌, [], List, take, sym, ap, ◌∙◌, append-nil, arith}
use Rattle.std.specs.List.{filter}
use Rattle.std.specs.Prelude.{cond}
use Rattle.std.proofs.lemmas.List.{take_all}
use Rattle.std.proofs.lemmas.List.Elements.{filter_more}
use Rattle.included_forms.specs.declared.given.Given.{Given}
use Rattle.included_forms.specs.Counted.{gives}
use Rattle.included_forms.proofs.counting.giving_steps.Goals as goal
use Rattle.included_forms.proofs.counting.giving_steps.Goals.{then-gives+in_ok-push, else-gives}

pub loop-step-preserved : goal.loop-step-preserved
loop-step-preserved c = λ limit gs h.
    let ss = c.args.steps.now in
    let i = c.loop-step.step-index in
    let s = c.step-item.result in
    let was = c.loop-step.invariant limit gs h in
    let here : c.gives.result ≡ gives gs s = c.gives.ensures limit gs h in
    let more : filter (gives gs) (take (i + 1) ss) ≡ filter (gives gs) (take i ss) ++ cond c.gives.result (s ∷ []) [] =
    filter_more (gives gs) ss i s (omega arith) ∙ ap (λ (x : Given). filter (gives gs) (take i ss) ++ cond (gives gs x) (x ∷ []) []) (sym c.step-item.is)
    ∙ ap (λ b. filter (gives gs) (take i ss) ++ cond b (s ∷ []) []) (sym here) in
    elim c.if-gives.branch [
      | then-gives+in_ok-push w ↦
          ap (λ v. v.items) w.giving-is ∙ w.in_ok-push.ensures.items ∙ ap (λ xs. xs ++ s ∷ []) was
          ∙ ap (λ b. filter (gives gs) (take i ss) ++ cond b (s ∷ []) []) (sym w.if-gives.true) ∙ sym more
      | else-gives w ↦
          ap (λ v. v.items) w.giving-is ∙ was ∙ sym (append-nil (filter (gives gs) (take i ss)))
          ∙ ap (λ b. filter (gives gs) (take i ss) ++ cond b (s ∷ []) []) (sym w.if-gives.false) ∙ sym more
    ]

pub returns : goal.returns
returns c = λ limit gs h.
    c.loop-step.invariant limit gs h ∙ ap (λ (xs : List Given). filter (gives gs) xs) (take_all c.loop-step.step-index c.args.steps.now (omega arith))
