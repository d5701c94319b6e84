use Rattle.std.proofs.Common.{ℕ, ◌*◌, ◌+◌, List, take, Ok}
use Rattle.scheme_model.specs.Trees.{Tree}
use Rattle.scheme_model.specs.Ident.{Ident as Identifier}
use Rattle.scheme_model.specs.Shapes.{Clause}
use Rattle.scheme_model.specs.Order.{Item}
use Rattle.scheme_model.specs.Expression.{whole, expand, procedure, item_part}
use Rattle.syntax_tree.specs.Works.{StandsFor}
use Rattle.core_tree.specs.Names.{AllMatch}
use Rattle.core_tree.specs.Cores.{CoreStands, PartStands}
use Rattle.unit_scopes.specs.Kept.{ClauseFor, KeptFor}
use Rattle.unit_scopes.specs.Outcomes.{IsEnough, Spends}
use Rattle.expander.specs.Expanded.{ClauseStands}
use Rattle.expander.proofs.AfterLaws.{IsAfter}
use Rattle.expander.proofs.RowLaws.{row, as_part}
use Rattle.expander.proofs.cores.+core.Given as goal
use Rattle.noted_steps.specs.Outcomes.{Runs}
use Rattle.noted_steps.specs.Noting.{noting}

-- a level of depth is eight steps; within a level each function calls those of a lower rank
abbrev pub decreases-expand_kept : goal.decreases-expand_kept
decreases-expand_kept l = 8 * l.at.depth + 6

abbrev pub decreases-expand_kept_item : goal.decreases-expand_kept_item
decreases-expand_kept_item l = 8 * l.at.depth + 5

abbrev pub decreases-expand_all : goal.decreases-expand_all
decreases-expand_all l = 8 * l.at.depth + 4

abbrev pub decreases-expand : goal.decreases-expand
decreases-expand l = 8 * l.at.depth + 3

abbrev pub decreases-expand_shape : goal.decreases-expand_shape
decreases-expand_shape l = 8 * l.at.depth + 2

abbrev pub decreases-procedures : goal.decreases-procedures
decreases-procedures l = 8 * l.at.depth + 2

abbrev pub decreases-procedure : goal.decreases-procedure
decreases-procedure l = 8 * l.at.depth + 1

abbrev pub decreases-case_lambda : goal.decreases-case_lambda
decreases-case_lambda l = 8 * l.at.depth + 1

abbrev pub decreases-conditional : goal.decreases-conditional
decreases-conditional l = 8 * l.at.depth + 1

abbrev pub decreases-set : goal.decreases-set
decreases-set l = 8 * l.at.depth + 1

abbrev pub decreases-assign : goal.decreases-assign
decreases-assign l = 8 * l.at.depth + 1

abbrev pub decreases-assign_procedure : goal.decreases-assign_procedure
decreases-assign_procedure l = 8 * l.at.depth + 1

abbrev pub decreases-lambda : goal.decreases-lambda
decreases-lambda l = 8 * l.at.depth + 1

abbrev pub decreases-sequence : goal.decreases-sequence
decreases-sequence l = 8 * l.at.depth + 1

abbrev pub decreases-local_macros : goal.decreases-local_macros
decreases-local_macros l = 8 * l.at.depth + 1

abbrev pub decreases-body : goal.decreases-body
decreases-body l = 8 * l.at.depth

abbrev pub invariant-expand_all-loop-part : goal.invariant-expand_all-loop-part
invariant-expand_all-loop-part l = record {
  after : IsAfter l.fn.work l.work l.region l.fn.units l.units l.at.scope;
  spends : Spends 0 l.fn.units l.units;
  runs : (ts : List (Tree Identifier)) (turns : ℕ) → AllMatch (StandsFor l.fn.work) l.parts ts → IsEnough l.at.depth l.fn.units.form.budget.uses turns →
      Runs (λ ls xs ms. AllMatch (CoreStands l.work l.units.unit l.units.form.number) xs ms) l.fn.work l.work l.region l.fn.units l.units l.at.scope (Ok l.cores.items) (λ known fs. row (λ t. expand (noting known) turns l.at.depth l.at.here fs (whole t)) (take l.part-index ts));
}

abbrev pub invariant-procedures-loop-clause : goal.invariant-procedures-loop-clause
invariant-procedures-loop-clause l = record {
  after : IsAfter l.fn.work l.work l.region l.fn.units l.units l.at.scope;
  spends : Spends 0 l.fn.units l.units;
  runs : (cs : List (Clause Identifier)) (turns : ℕ) → AllMatch (ClauseFor l.fn.work l.region) l.shapes cs → IsEnough l.at.depth l.fn.units.form.budget.uses turns →
      Runs (λ ls xs ms. AllMatch (ClauseStands l.work l.units.unit l.units.form.number) xs ms) l.fn.work l.work l.region l.fn.units l.units l.at.scope (Ok l.all.items) (λ known fs. row (procedure (expand (noting known) turns) (noting known) l.at.depth l.at.here fs) (take l.clause-index cs));
}

abbrev pub invariant-expand_kept-loop-kept : goal.invariant-expand_kept-loop-kept
invariant-expand_kept-loop-kept l = record {
  after : IsAfter l.fn.work l.work l.region l.fn.units l.units l.at.scope;
  spends : Spends 0 l.fn.units l.units;
  runs : (is : List (Item Identifier)) (turns : ℕ) → AllMatch (KeptFor l.fn.work l.region l.fn.units.unit l.fn.units.form.number) l.aside is → IsEnough l.at.depth l.fn.units.form.budget.uses turns →
      Runs (λ ls xs ms. AllMatch (PartStands l.work l.units.unit l.units.form.number) xs ms) l.fn.work l.work l.region l.fn.units l.units l.at.scope (Ok l.parts.items) (λ known fs. row (item_part (expand (noting known) turns) (noting known) l.at.depth fs) (take l.kept-index is));
}

abbrev pub invariant-sequence-loop-form : goal.invariant-sequence-loop-form
invariant-sequence-loop-form l = record {
  after : IsAfter l.initial.work l.work l.region l.initial.units l.units l.below.scope;
  spends : Spends 0 l.initial.units l.units;
  runs : (ts : List (Tree Identifier)) (turns : ℕ) → AllMatch (StandsFor l.initial.work) l.forms ts → IsEnough l.below.depth l.initial.units.form.budget.uses turns →
      Runs (λ ls xs ms. AllMatch (PartStands l.work l.units.unit l.units.form.number) xs ms) l.initial.work l.work l.region l.initial.units l.units l.below.scope (Ok l.parts.items) (λ known fs. row (as_part (λ u. expand (noting known) turns l.below.depth l.below.here fs (whole u))) (take l.form-index ts));
}
