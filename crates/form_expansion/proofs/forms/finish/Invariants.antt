use Rattle.std.proofs.Common.{◌≡◌, ◌+◌, ◌^◌, []}
use Rattle.unit_scopes.specs.Units.{HasSpace}
use Rattle.form_expansion.specs.Forms.{IsUntouched, IsTurned, Stays, declared_as}
use Rattle.form_expansion.proofs.FormLoop.{Continues, IsBlankTrace}
use Rattle.form_expansion.proofs.forms.finish.Given as goal

abbrev pub invariant-loop-item : goal.invariant-loop-item
invariant-loop-item g l = record {
  space : HasSpace (2 ^ 43) l.budget;
  stays : Stays l.fn.bench l.bench;
  so : Continues l.fn.bench l.bench l.fn.unit l.fn.number (declared_as l.fn.so_far l.fn.left) l.item-index l.fn.total l.total l.budget l.trace l.items;
  none : IsUntouched (declared_as l.fn.so_far l.fn.left) → (l.items ≡ []) × IsBlankTrace l.trace × IsTurned l.fn.bench l.bench × (l.total ≡ l.fn.total) × (l.steps ≡ l.fn.steps);
  steps : l.steps + l.fn.so_far.budget.uses ≡ l.fn.steps + l.budget.uses;
}
