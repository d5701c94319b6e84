use Rattle.std.proofs.Common.{ℕ, List}
use Rattle.scheme_model.specs.Ident.{Ident}
use Rattle.scheme_model.specs.Trees.{Tree}
use Rattle.scheme_model.specs.Requirements.{Known}
use Rattle.scheme_model.specs.Order.{Item, WaitingUse, Note}
use Rattle.scheme_model.specs.ScopedExpansion.{FramedIdent, ScopedState}
use Rattle.syntax_tree.specs.declared.trees.Work.{Work}
use Rattle.core_tree.specs.declared.traces.Trace.{Trace}
use Rattle.unit_scopes.specs.declared.scope.Budget.{Budget}
use Rattle.expansion_laws.proofs.OtherForms.{declared_stays, met_stays, expanded_stays}
use Rattle.expansion_laws.proofs.ItemTables.{met_table, expanded_table}
use Rattle.expansion_laws.proofs.OtherCounts.{others_count, order_stays}
use Rattle.expansion_laws.proofs.laws.other_forms_stay.Goals as goal

pub returns : goal.returns
returns c = record {
  declared = λ (known : Known) (n : ℕ) (t : Tree Ident) (notes : List (Note FramedIdent)) (s : ScopedState). declared_stays n known t notes s;
  expanded = λ (known : Known) (n : ℕ) (i : Item Ident) (s : ScopedState). expanded_stays n known i s;
  met = λ (known : Known) (n : ℕ) (us : List (WaitingUse Ident)) (s : ScopedState). met_stays n known us s;
  met_table = λ (known : Known) (n : ℕ) (us : List (WaitingUse Ident)) (s : ScopedState). met_table known n us s;
  table = λ (known : Known) (n : ℕ) (i : Item Ident) (s : ScopedState). expanded_table known n i s;
  counts = λ (old new : Work) (n m : ℕ) (budget : Budget) (trace : Trace) (s t : ScopedState) apart stay names h. others_count n s t stay old new m budget trace apart names h;
  in_order = λ (n first behind : ℕ) (s t : ScopedState) stay low high order. order_stays n s t stay first behind low high order;
}
