use Rattle.std.proofs.Common.{◌≡◌, ◌+◌, ◌*◌, List}
use Rattle.scheme_model.specs.Ident.{Ident as Identifier, symbol_of}
use Rattle.scheme_model.specs.Matching.{behind}
use Rattle.scheme_model.specs.Requirements.{Known, libraries_among}
use Rattle.scheme_model.specs.ScopedExpansion.{Frames}
use Rattle.scheme_model.specs.Trees.{Trees}
use Rattle.syntax_tree.specs.Looks.{PartsStand}
use Rattle.feature_requirements.specs.Judged.{Knows}
use Rattle.noted_steps.specs.Asked.{libraries_behind}
use Rattle.noted_steps.specs.Noting.{Noting}
use Rattle.noted_steps.specs.Standing.{Stands, with_notes}
use Rattle.noted_steps.proofs.LibraryLaws.{NamesSoFar}
use Rattle.noted_steps.proofs.libraries.+libraries.Given as goal

abbrev pub decreases-note_requirement : goal.decreases-note_requirement
decreases-note_requirement l = 2 * l.left

abbrev pub decreases-note_requirements : goal.decreases-note_requirements
decreases-note_requirements l = 2 * l.left + 1

abbrev pub invariant-note_requirements-loop-k : goal.invariant-note_requirements-loop-k
invariant-note_requirements-loop-k l =
    (l.units ≡ with_notes l.initial.units l.units.form.trace.notes)
    × ((known : Known) (ls : List Frames) (s : Noting) (ts : Trees Identifier) → Knows l.initial.units.libraries known → Stands l.work l.initial.units ls s → PartsStand l.work l.parts ts →
    NamesSoFar known l.work ls s l.units (libraries_behind ts) (libraries_among symbol_of (behind l.k ts)))
