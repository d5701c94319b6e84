use Rattle.std.proofs.Common.{sym, ◌∙◌, subst}
use Rattle.included_forms.specs.Tables.{IsPlaced}
use Rattle.included_forms.proofs.BuildLaws.{means_one}
use Rattle.included_forms.proofs.resolving.text_given.Goals as goal

pub returns-in_ok-by_standing-in-Some : goal.returns-in_ok-by_standing-in-Some
returns-in_ok-by_standing-in-Some c = λ o t ms s m p.
    let n = c.args.document in
    let there = c.in-Some.place in
    means_one o t ms n c.args.string s c.args.way c.in_ok-by_standing-in-Some.field-0 there c.standing_at.result (m n c.args.string.characters.now c.requires ∙ sym c.in_ok-meant.ensures ∙ c.in-Some.is)
    (subst (IsPlaced o.usable ms there) (sym c.standing_at.ensures) (p there)) c.in_ok-by_standing-in-Some.ensures
