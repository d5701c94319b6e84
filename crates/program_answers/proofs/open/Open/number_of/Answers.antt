-- The documents are as many as the texts.
use Rattle.std.proofs.Common.{ℕ, IfSome, ◌<◌, subst}
use Rattle.std.specs.FinMap.{entries}
use Rattle.program_answers.proofs.TextLaws.{as_many}
use Rattle.program_answers.proofs.open.Open.number_of.Goals as goal

pub returns-clause-inside : goal.returns-clause-inside
returns-clause-inside c =
    subst (λ (m : ℕ). IfSome c.number_of.result (λ n. n < m)) (as_many (entries c.args.self.now) c.documents.result.now c.documents.ensures) c.number_of.ensures.inside
