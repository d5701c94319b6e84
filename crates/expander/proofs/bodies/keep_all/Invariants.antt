use Rattle.std.proofs.Common.{◌≡◌, List}
use Rattle.scheme_model.specs.Identifiers.{Number}
use Rattle.scheme_model.specs.Trees.{Trees}
use Rattle.scheme_model.specs.ExpansionFaults.{Named}
use Rattle.scheme_model.specs.Ident.{Ident as Identifier}
use Rattle.scheme_model.specs.Requirements.{Known}
use Rattle.scheme_model.specs.Order.{RulesParts}
use Rattle.scheme_model.specs.ScopedExpansion.{Frames}
use Rattle.syntax_tree.specs.declared.trees.table.Region.{Region}
use Rattle.core_forms.specs.Parts.{AreMacros}
use Rattle.expander.specs.Bodies.{HaveNumbers, RulesAre}
use Rattle.unit_scopes.specs.Outcomes.{At}
use Rattle.expander.proofs.KeepLaws.{KeptSoFar}
use Rattle.expander.proofs.bodies.keep_all.Given as goal
use Rattle.noted_steps.specs.Noting.{Noting}
use Rattle.noted_steps.specs.Standing.{Stands}
use Rattle.noted_steps.specs.Kept.{CanLook}

abbrev pub invariant-loop-k : goal.invariant-loop-k
invariant-loop-k l = record {
  so_far : (known : Known) (region : Region) (ls : List Frames) (s : Noting) (fs : Frames) (ns : List (Named Identifier)) (ts : Trees Identifier) (vs : List Number) (rs : List (RulesParts Identifier)) →
      Stands l.work l.fn.units ls s → At ls l.scope fs → AreMacros l.work l.macros ns ts → HaveNumbers s l.binders vs → RulesAre ts rs →
      KeptSoFar known l.here fs l.work region l.fn.units ls s vs ts rs l.units l.k;
  look : CanLook l.work l.units l.scope;
  locals : l.units.form.budget.locals ≡ l.fn.units.form.budget.locals;
  uses : l.units.form.budget.uses ≡ l.fn.units.form.budget.uses;
}
