use Rattle.std.proofs.Common.{◌≡◌, Bool, true, sym, ap, ◌∙◌, subst}
use Rattle.std.specs.Prelude.{◌&&◌, Option}
use Rattle.scheme_model.specs.declared.Occ.{Occ}
use Rattle.rename_model.specs.SameProgram.{at_template}
use Rattle.program_leaves.specs.declared.sight.Sight.{Sight}
use Rattle.alpha_equal.specs.declared.points.Spot.{Spot}
use Rattle.alpha_equal.specs.Points.{spot_as}
use Rattle.alpha_equal.specs.Compared.{live_at, TellsLive}
use Rattle.alpha_equal.proofs.compare.is_left_out.Goals as goal

pub returns-in-Some : goal.returns-in-Some
returns-in-Some c = λ names unit form is_live p tells told.
    let spot : at_template p.spot ≡ true = ap at_template (sym told.spot) ∙ ap (λ (s : Spot). at_template (spot_as s)) c.in-Template.is in
    let knows : (o : Option Occ) → is_live o ≡ live_at c.in-Some.sight o = subst (λ (s : Option Sight). TellsLive s is_live) c.in-Some.is tells in
    c.is_live_in.ensures ∙ sym (knows c.args.told.occ) ∙ ap is_live told.place ∙ sym (ap (λ (b : Bool). b && is_live p.occ) spot)
