use Rattle.std.proofs.Common.{subst}
use Rattle.scheme_model.specs.Meaning.{Meaning}
use Rattle.syntax_tree.specs.Meant.{IsMeaning}
use Rattle.scheme_model.specs.Meaning.{of_form}
use Rattle.unit_scopes.specs.Chains.{chain_in, uses_in, given_in}
use Rattle.unit_scopes.proofs.ChainLaws.{chain_means}
use Rattle.unit_scopes.proofs.scope.UnitScope.means.Goals as goal

pub returns : goal.returns
returns c = λ ls s fs i stands at is.
    subst (λ (m : Meaning). IsMeaning c.args.work.now.symbols s.unit s.form c.resolve.result (of_form s.unit s.form m)) (chain_means s fs i)
    (c.resolve.ensures.meaning (given_in s) (uses_in s) (chain_in s fs) s.unit s.form i is stands.env.given (stands.env.scopes c.args.scope fs at))
