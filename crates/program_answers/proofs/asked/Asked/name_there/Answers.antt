use Rattle.std.proofs.Common.{ℕ, Option, sym, ap, ◌∙◌}
use Rattle.std.specs.FinMap.{entries}
use Rattle.program_answers.specs.ToldAnswers.{name_by}
use Rattle.program_answers.proofs.asked.Asked.name_there.Goals as goal

pub returns-in-Some-clause-name : goal.returns-in-Some-clause-name
returns-in-Some-clause-name c = λ rs source.
    c.name_in.ensures rs source ∙ ap (λ (n : Option ℕ). name_by c.args.self.now.encoding (entries c.args.self.now.texts.now) rs n c.args.position) (sym c.in-Some.is ∙ c.number_of.ensures.exact)
