use Rattle.std.proofs.Common.{map, [], ◌++◌, ap, ◌∙◌}
use Rattle.std.specs.Prelude.{if◌then◌else◌}
use Rattle.std.specs.FinMap.{entries}
use Rattle.scheme_model.specs.Answers.{binders_for, places_for, uses_for}
use Rattle.program_answers.specs.ToldAnswers.{facts_in, place_told}
use Rattle.program_answers.proofs.AskedLaws.{places_same}
use Rattle.program_answers.proofs.answers.references.Goals as goal

pub returns : goal.returns
returns c = λ rs source.
    let f = facts_in rs in
    let wanted = (if c.args.declaration then binders_for f c.args.occ else []) ++ uses_for f c.args.occ in
    c.in_ok-places.ensures rs source
    ∙ ap (map (place_told c.args.asked.now.encoding (entries c.args.asked.now.texts.now))) (ap (places_for f) c.as_slice.ensures.value ∙ places_same f c.in_ok-occs.occs.items wanted (c.in_ok-occs.ensures rs source))
