-- Where notes alone were changed before a step, forms are gone through as before.
use Rattle.std.proofs.Common.{◌≡◌, ℕ, List, Result, sym, ap, subst}
use Rattle.scheme_model.specs.Ident.{Ident as Identifier}
use Rattle.scheme_model.specs.Order.{Form, Going, Pass, Pending}
use Rattle.scheme_model.specs.ScopedExpansion.{Frames, FramedIdent}
use Rattle.syntax_tree.specs.declared.trees.Work.{Work}
use Rattle.syntax_tree.specs.declared.trees.table.Region.{Region}
use Rattle.feature_requirements.specs.declared.fault.ExpandFault.{ExpandFault}
use Rattle.form_parts.specs.declared.items.Pending as code_pending
use Rattle.form_parts.specs.declared.items.Spot.{Spot}
use Rattle.unit_scopes.specs.Kept.{PendingFor}
use Rattle.unit_scopes.specs.declared.asked.Asked.{Asked}
use Rattle.unit_scopes.specs.declared.scope.UnitScope.{UnitScope}
use Rattle.noted_steps.specs.Noting.{Noting}
use Rattle.noted_steps.specs.Standing.{Stands, with_notes}
use Rattle.noted_steps.proofs.OutcomeLaws.{noted_stays}
use Rattle.expander.specs.Passed.{GoesOn}
use Rattle.expander.proofs.PassLaws.{goes_after}

module _ (work : Work) (region : Region) (u w : UnitScope) (same : w ≡ with_notes u w.form.trace.notes) where
  pub goes_noted : (ls : List Frames) (spot : Spot) (fs : Frames) (s t : Noting) → Stands work u ls s → Stands work w ls t → (before : List (Form Identifier)) (given : ℕ) (todo : code_pending.Pending) (asked : Asked) (v : UnitScope) (result : Result (Unit {0}) ExpandFault)
      (step : Going Identifier FramedIdent Noting → Pass Identifier FramedIdent × Noting) → GoesOn work work region w v ls spot fs before given todo asked result step → GoesOn work work region u v ls spot fs before given todo asked result step
  goes_noted ls spot fs s t e now before given todo asked v result step h =
      goes_after region ls spot fs before given todo asked work work work u w v t result step (noted_stays work region u w ls s t e same now) (ap (λ (x : UnitScope). x.form.budget.uses) same) (ap (λ (x : UnitScope). x.form.budget.locals) same) h

  pub pending_noted : (old : code_pending.Pending) (p : Pending Identifier FramedIdent) → PendingFor work region u.unit u.form.number old p → PendingFor work region w.unit w.form.number old p
  pending_noted old p h =
      subst (λ (f : ℕ). PendingFor work region w.unit f old p) (sym (ap (λ (x : UnitScope). x.form.number) same)) (subst (λ (n : ℕ). PendingFor work region n u.form.number old p) (sym (ap (λ (x : UnitScope). x.unit) same)) h)
