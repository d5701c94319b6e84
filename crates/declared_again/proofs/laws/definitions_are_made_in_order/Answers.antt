use Rattle.declared_again.proofs.OwnNotes.{made_in_order}
use Rattle.declared_again.proofs.laws.definitions_are_made_in_order.Goals as goal

pub returns : goal.returns
returns c = λ w turns t. made_in_order w turns t
