use Rattle.std.proofs.Common.{◌≡◌, ℕ, List, [], length, drop}
use Rattle.scheme_model.specs.Requirements.{LibraryName}
use Rattle.scheme_model.specs.IncludedUnits.{Placed}
use Rattle.scheme_model.specs.Program.{UnitResult, ImportSpec}
use Rattle.syntax_tree.specs.Names.{KeepsNames}
use Rattle.core_tree.specs.Names.{AllMatch}
use Rattle.read_documents.specs.Findings.{all_told, errors_in}
use Rattle.unit_imports.specs.Joining.{AreApart, GroupsMean}
use Rattle.read_documents.specs.Places.{AreFoundIn}
use Rattle.unit_imports.specs.SetsGiven.{AreLibraries}
use Rattle.read_documents.specs.UnitSources.{IsSpec}
use Rattle.unit_imports.proofs.GivenLaws.{SetsTold}
use Rattle.unit_imports.proofs.entries.sets_given.Given as goal

abbrev pub invariant-loop-place : goal.invariant-loop-place
invariant-loop-place l = record {
  names : KeepsNames l.initial.symbols l.symbols;
  means : GroupsMean l.symbols l.gathering.groups.items;
  apart : AreApart l.gathering.groups.items;
  clashes : l.gathering.clashes.items ≡ [];
  findings : AreFoundIn (length l.places.documents.now) l.findings.items;
  sets : (spelled : LibraryName → List ℕ) (all : List Placed) (rs : List UnitResult) → AreLibraries l.initial.symbols l.libraries spelled all rs → (ss : List ImportSpec) → AllMatch (IsSpec spelled) l.source.imports ss →
      SetsTold l.symbols l.gathering.groups.items (all_told l.initial.findings.items) (all_told l.findings.items) l.places all rs ss (drop l.place ss) l.forms.items (drop l.place l.forms.items) (errors_in l.initial.findings.items) (errors_in l.findings.items);
}
