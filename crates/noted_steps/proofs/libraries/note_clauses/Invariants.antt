use Rattle.std.proofs.Common.{◌≡◌, List}
use Rattle.scheme_model.specs.Ident.{Ident as Identifier, symbol_of}
use Rattle.scheme_model.specs.Matching.{behind}
use Rattle.scheme_model.specs.Requirements.{Known, all_libraries}
use Rattle.scheme_model.specs.ScopedExpansion.{Frames}
use Rattle.scheme_model.specs.Trees.{Trees}
use Rattle.syntax_tree.specs.Looks.{PartsStand}
use Rattle.feature_requirements.specs.Judged.{Knows}
use Rattle.noted_steps.specs.Asked.{all_behind}
use Rattle.noted_steps.specs.Noting.{Noting}
use Rattle.noted_steps.specs.Standing.{Stands, with_notes}
use Rattle.noted_steps.proofs.LibraryLaws.{NamesSoFar}
use Rattle.noted_steps.proofs.libraries.note_clauses.Given as goal

abbrev pub invariant-loop-k : goal.invariant-loop-k
invariant-loop-k l = record {
  rest : l.units ≡ with_notes l.initial.units l.units.form.trace.notes;
  noted : (known : Known) (ls : List Frames) (s : Noting) (ts : Trees Identifier) → Knows l.initial.units.libraries known → Stands l.work l.initial.units ls s → PartsStand l.work l.clauses ts →
      NamesSoFar known l.work ls s l.units (all_behind ts) (all_libraries symbol_of (behind l.k ts));
}
