use Rattle.std.proofs.Common.{ℕ, Option, sym, ap, ◌∙◌, arith}
use Rattle.std.specs.FinMap.{entries}
use Rattle.program_answers.specs.ToldAnswers.{answer_by, answer_told, query_of}
use Rattle.program_answers.proofs.answers.answer.Goals as goal

pub answer_about-requires-clause-open : goal.answer_about-requires-clause-open
answer_about-requires-clause-open c = omega (arith, c.in-Some.ensures.inside)

pub answer_beside-requires : goal.answer_beside-requires
answer_beside-requires c = omega (arith, c.in-Some.ensures.inside)

pub returns-in_default : goal.returns-in_default
returns-in_default c = λ rs source.
    let encoding = c.args.asked.now.encoding in
    let ds = entries c.args.asked.now.texts.now in
    c.no_answer.ensures encoding ds ∙ ap (λ (n : Option ℕ). answer_told encoding ds (answer_by encoding ds rs n c.args.position (query_of c.args.query))) (sym c.in_default.is ∙ c.number_of.ensures.exact)
