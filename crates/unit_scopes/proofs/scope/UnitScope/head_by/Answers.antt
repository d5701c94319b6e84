use Rattle.std.proofs.Common.{subst}
use Rattle.scheme_model.specs.Order.{is_some}
use Rattle.scheme_model.specs.ScopedExpansion.{macro_at}
use Rattle.syntax_tree.specs.Meant.{IsMeaning}
use Rattle.syntax_tree.specs.declared.meaning.Meaning.{Meaning}
use Rattle.unit_scopes.proofs.HeadLaws.{core_head, auxiliary_head}
use Rattle.unit_scopes.proofs.scope.UnitScope.head_by.Goals as goal

pub returns-in-Some : goal.returns-in-Some
returns-in-Some c = λ ls s m stands is.
    core_head c.args.work.now.symbols s.unit s.form (λ x. is_some (macro_at s.macros x)) c.in-Some.keyword c.in-Standard.symbol c.name-name.result.now m c.name-name.ensures c.in-Some.ensures
    (subst (λ (x : Meaning). IsMeaning c.args.work.now.symbols s.unit s.form x m) c.in-Standard.is is)

pub returns-in-Some-auxiliary_named : goal.returns-in-Some-auxiliary_named
returns-in-Some-auxiliary_named c = λ ls s m stands is.
    auxiliary_head c.args.work.now.symbols s.unit s.form (λ x. is_some (macro_at s.macros x)) c.in-Some-auxiliary_named.auxiliary c.in-Standard.symbol c.name-name.result.now m c.name-name.ensures c.in_default-core_named.ensures c.in-Some-auxiliary_named.ensures
    (subst (λ (x : Meaning). IsMeaning c.args.work.now.symbols s.unit s.form x m) c.in-Standard.is is)
