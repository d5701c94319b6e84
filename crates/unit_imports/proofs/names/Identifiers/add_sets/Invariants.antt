use Rattle.std.proofs.Common.{ℕ, List, take}
use Rattle.scheme_model.specs.Requirements.{LibraryName}
use Rattle.scheme_model.specs.IncludedUnits.{Placed}
use Rattle.scheme_model.specs.Program.{UnitResult, ImportSpec}
use Rattle.scheme_model.specs.ProgramArrows.{import_uses}
use Rattle.syntax_tree.specs.Names.{KeepsNames}
use Rattle.core_tree.specs.Names.{AllMatch}
use Rattle.unit_imports.specs.NamesUsed.{AddsNames}
use Rattle.unit_imports.specs.SetsGiven.{AreLibraries}
use Rattle.read_documents.specs.UnitSources.{IsSpec}
use Rattle.unit_imports.proofs.names.Identifiers.add_sets.Given as goal

abbrev pub invariant-loop-spec : goal.invariant-loop-spec
invariant-loop-spec l = record {
  names : KeepsNames l.initial.symbols l.symbols;
  adds : (spelled : LibraryName → List ℕ) (all : List Placed) (rs : List UnitResult) → AreLibraries l.initial.symbols l.libraries spelled all rs → (ss : List ImportSpec) → AllMatch (IsSpec spelled) l.specs ss →
      AddsNames l.symbols l.initial.self l.self (import_uses all rs (take l.spec-index ss));
}
