-- The lines of a document are those of its text.
use Rattle.std.proofs.Common.{List, ℕ, sym, subst}
use Rattle.text_positions.specs.Lines.{AreLinesOf}
use Rattle.program_answers.proofs.open.Open.offset.Goals as goal

pub offset-requires : goal.offset-requires
offset-requires c = subst (λ (t : List ℕ). AreLinesOf c.document.result.now.lines t) (sym c.text.ensures) c.document.ensures.lines
