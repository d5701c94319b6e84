use Rattle.std.proofs.Common.{sym, ap, ◌∙◌}
use Rattle.std.specs.FinMap.{entries}
use Rattle.program_answers.specs.ToldAnswers.{answer_told, facts_in}
use Rattle.program_answers.proofs.AskedLaws.{beside_none}
use Rattle.program_answers.proofs.answers.answer_beside.Goals as goal

pub returns-in_default : goal.returns-in_default
returns-in_default c = λ rs source.
    let encoding = c.args.asked.now.encoding in
    let ds = entries c.args.asked.now.texts.now in
    c.no_answer.ensures encoding ds ∙ ap (answer_told encoding ds) (sym (beside_none (facts_in rs) c.args.document c.args.query c.in_default.not-Arrows))
