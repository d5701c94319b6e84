use Rattle.std.proofs.Common.{◌≡◌, ℕ, ◌-◌, List}
use Rattle.scheme_model.specs.Trees.{Tree}
use Rattle.scheme_model.specs.Ident.{Ident as Identifier}
use Rattle.scheme_model.specs.Requirements.{Known}
use Rattle.scheme_model.specs.Expression.{whole, expand}
use Rattle.scheme_model.specs.ScopedExpansion.{Frames}
use Rattle.syntax_tree.specs.Works.{IsOpened}
use Rattle.feature_requirements.specs.Judged.{Knows}
use Rattle.unit_scopes.specs.Outcomes.{At, IsAtWork, WorksOn, IsEnough}
use Rattle.expander.proofs.AfterLaws.{IsAfter}
use Rattle.expander.proofs.SettleLaws.{SoFar}
use Rattle.expander.proofs.expressions.settle.Given as goal
use Rattle.noted_steps.specs.Noting.{Noting, noting}
use Rattle.noted_steps.specs.Standing.{Stands}

abbrev pub invariant-uses : goal.invariant-uses
invariant-uses l = record {
  opened : IsOpened l.work l.region;
  after : IsAfter l.fn.work l.work l.region l.fn.units l.units l.at.scope;
  form : IsAtWork l.work l.region l.form;
  locals : l.units.form.budget.locals ≡ l.fn.units.form.budget.locals;
  so_far : (known : Known) (turns : ℕ) (ls : List Frames) (s : Noting) (fs : Frames) (t : Tree Identifier) → Knows l.fn.units.libraries known → Stands l.fn.work l.fn.units ls s → At ls l.at.scope fs →
      WorksOn l.fn.work l.region l.fn.form t → IsEnough l.at.depth l.fn.units.form.budget.uses turns →
      SoFar known l.at.depth l.fn.work l.work l.region l.fn.units l.units ls fs l.form l.here (expand (noting known) turns l.at.depth l.at.here fs (whole t) s);
}

abbrev pub decreases-uses : goal.decreases-uses
decreases-uses l = 10000 - l.units.form.budget.uses
