use Rattle.std.proofs.Common.{ℕ, ap, ◌∙◌}
use Rattle.std.specs.Prelude.{◌==◌}
use Rattle.std.specs.FinMap.{entries}
use Rattle.program_answers.proofs.TextLaws.{as_many}
use Rattle.program_answers.proofs.open.Open.is_empty.Goals as goal

pub returns : goal.returns
returns c = c.is_empty.ensures ∙ ap (λ (n : ℕ). n == 0) (as_many (entries c.args.self.now) c.documents.result.now c.documents.ensures)
