-- Nothing stands in no documents.
use Rattle.program_answers.proofs.TextLaws.{belongs_empty}
use Rattle.program_answers.proofs.open.Open.new.Goals as goal

pub invariant_of-result : goal.invariant_of-result
invariant_of-result c = belongs_empty _ _ _ _ c.new.ensures c.new-2.ensures.items c.new-3.ensures.items c.new-4.ensures.items
