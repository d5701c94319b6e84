use Rattle.std.proofs.Common.{◌≡◌, IfOk, ap, ◌∙◌, subst}
use Rattle.scheme_model.specs.Included.{Listing}
use Rattle.included_forms.specs.Planned.{plan_listing, all_included}
use Rattle.included_forms.specs.Counted.{IsWritten, in_way}
use Rattle.included_forms.specs.Tables.{given_of, givens}
use Rattle.included_forms.proofs.BuildLaws.{homed_here, text_in_way}
use Rattle.included_forms.proofs.tables.text_written.Goals as goal

pub returns : goal.returns
returns c = λ o t docs text s ms k.
    let n = c.args.document in
    let w = c.args.way in
    let same : plan_listing t n c.in_ok-plan.plan ≡ in_way (given_of o t n) w =
    c.in_ok-plan.ensures t o.known docs.known ∙ ap (all_included t o.known w) (homed_here o n c.args.text text) ∙ text_in_way o t n w in
    subst (λ (l : Listing). IfOk c.plan_written.result (λ x. IsWritten o.limit (givens o t ms) x l)) same (c.plan_written.ensures o t docs s ms k)
