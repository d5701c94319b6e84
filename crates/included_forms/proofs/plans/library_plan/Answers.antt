use Rattle.std.proofs.Common.{◌≡◌, ◌∷◌, [], IfOk, subst}
use Rattle.scheme_model.specs.Declarations.{behind_head}
use Rattle.scheme_model.specs.IncludedUnits.{library_listing, own}
use Rattle.scheme_model.specs.Included.{Listing}
use Rattle.included_forms.specs.Planned.{plan_listing}
use Rattle.datum_reader.specs.Views.{datum_of}
use Rattle.included_forms.proofs.PlanLaws.{plan_made, library_alone}
use Rattle.included_forms.proofs.plans.library_plan.Goals as goal

pub returns : goal.returns
returns c = λ t has k.
    let n = c.args.document in
    let d = datum_of c.args.datum.now in
    let ended = c.library-ended in
    subst (λ (l : Listing). IfOk c.planned.result (λ p. plan_listing t n p ≡ l)) (library_alone t has (own n d) (behind_head d))
    (plan_made t n c.new-steps.result.items ended.new.steps.items ended.result c.planned.result (library_listing t has (own n d) (behind_head d) ∷ []) c.new-steps.ensures.items c.planned.ensures (ended.ensures t has k))
