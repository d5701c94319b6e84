use Rattle.scheme_model.specs.Order.{is_some}
use Rattle.scheme_model.specs.Meaning.{head_as}
use Rattle.scheme_model.specs.ScopedExpansion.{macro_at}
use Rattle.scheme_model.specs.CountedExpansion.{means_here}
use Rattle.unit_scopes.proofs.scope.UnitScope.mark.Goals as goal

pub returns : goal.returns
returns c = λ ls s fs i stands at is. c.head_mark.ensures (head_as (λ x. is_some (macro_at s.macros x)) (means_here s fs i)) (c.head_of.ensures ls s fs i stands at is)
