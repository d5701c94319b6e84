use Rattle.std.proofs.Common.{sym, ap, ◌∙◌}
use Rattle.program_answers.specs.Classed.{head_of, standard_for}
use Rattle.program_answers.specs.ToldAnswers.{facts_in}
use Rattle.program_answers.proofs.AskedLaws.{names_law}
use Rattle.program_answers.proofs.classes.standard_at.Goals as goal

pub returns-in_default : goal.returns-in_default
returns-in_default c = λ rs source. ap (standard_for (facts_in rs)) (sym c.in_default.is ∙ c.name_there.ensures.name rs source)

pub returns : goal.returns
returns c = λ rs source.
    let f = facts_in rs in
    c.in_ok-first.ensures ∙ ap head_of (c.as_slice.ensures ∙ names_law f c.in-Some.occ c.in_ok-names.names (c.in_ok-names.ensures rs source)) ∙ ap (standard_for f) (sym c.in-Some.is ∙ c.name_there.ensures.name rs source)
