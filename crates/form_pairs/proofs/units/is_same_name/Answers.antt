use Rattle.form_pairs.proofs.UnitTexts.{names_alike}
use Rattle.form_pairs.proofs.units.is_same_name.Goals as goal

pub returns-in-Some-Some : goal.returns-in-Some-Some
returns-in-Some-Some c =
    let at = c.in-Some-Some in
    names_alike c.eq.result c.as_str.result.now c.as_str-in-Some-Some.result.now c.eq.ensures c.args.a c.args.b at.x at.y at.is-0 at.is-1 c.as_str.ensures c.as_str-in-Some-Some.ensures
