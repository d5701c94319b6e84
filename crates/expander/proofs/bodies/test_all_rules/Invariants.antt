use Rattle.std.proofs.Common.{◌≡◌, List}
use Rattle.scheme_model.specs.Trees.{Trees}
use Rattle.scheme_model.specs.ExpansionFaults.{Named}
use Rattle.scheme_model.specs.Ident.{Ident as Identifier}
use Rattle.scheme_model.specs.Requirements.{Known}
use Rattle.scheme_model.specs.ScopedExpansion.{Frames}
use Rattle.syntax_tree.specs.declared.trees.table.Region.{Region}
use Rattle.core_forms.specs.Parts.{AreMacros}
use Rattle.unit_scopes.specs.Outcomes.{At}
use Rattle.expander.proofs.RulesHeads.{HeadsSoFar}
use Rattle.expander.proofs.bodies.test_all_rules.Given as goal
use Rattle.noted_steps.specs.Noting.{Noting}
use Rattle.noted_steps.specs.Standing.{Stands, with_notes}

abbrev pub invariant-loop-local : goal.invariant-loop-local
invariant-loop-local l = record {
  so_far : (known : Known) (region : Region) (ls : List Frames) (s : Noting) (fs : Frames) (ns : List (Named Identifier)) (ts : Trees Identifier) → Stands l.work l.fn.units ls s → At ls l.scope fs → AreMacros l.work l.macros ns ts →
      HeadsSoFar known l.here fs l.work region l.fn.units ls s ts l.units l.local-index;
  rest : l.units ≡ with_notes l.fn.units l.units.form.trace.notes;
}
