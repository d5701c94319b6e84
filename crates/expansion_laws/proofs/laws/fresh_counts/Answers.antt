use Rattle.std.proofs.Common.{ℕ}
use Rattle.scheme_model.specs.ScopedExpansion.{ScopedState}
use Rattle.syntax_tree.specs.declared.trees.Work.{Work}
use Rattle.core_tree.specs.declared.traces.Trace.{Trace}
use Rattle.unit_scopes.specs.declared.scope.Budget.{Budget}
use Rattle.unit_scopes.proofs.FreshLaws.{none_count, none_has_space, none_in_order}
use Rattle.expansion_laws.proofs.laws.fresh_counts.Goals as goal

pub returns : goal.returns
returns c = record {
  counts = λ (work : Work) (s : ScopedState) (m : ℕ) (budget : Budget) (trace : Trace) fresh uses nodes locals definitions keywords met. none_count work s m budget trace fresh uses nodes locals definitions keywords met;
  space = λ (budget : Budget) none. none_has_space budget none;
  in_order = λ (s : ScopedState) fresh. none_in_order s fresh;
}
