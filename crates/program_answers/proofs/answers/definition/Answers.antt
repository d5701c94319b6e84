use Rattle.std.proofs.Common.{map, ap, ◌∙◌}
use Rattle.std.specs.FinMap.{entries}
use Rattle.scheme_model.specs.Answers.{binders_for, places_for}
use Rattle.program_answers.specs.ToldAnswers.{facts_in, place_told}
use Rattle.program_answers.proofs.AskedLaws.{places_same}
use Rattle.program_answers.proofs.ListedLaws.{occs_same}
use Rattle.program_answers.proofs.answers.definition.Goals as goal

pub returns : goal.returns
returns c = λ rs source.
    let f = facts_in rs in
    let binders = c.in_ok-binders.binders in
    let same = occs_same binders (binders_for f c.args.occ) (c.in_ok-binders.ensures _ _ source.index) in
    c.in_ok-places.ensures rs source
    ∙ ap (map (place_told c.args.asked.now.encoding (entries c.args.asked.now.texts.now))) (ap (places_for f) c.as_slice.ensures ∙ places_same f binders (binders_for f c.args.occ) same)
