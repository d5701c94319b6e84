use Rattle.std.proofs.Common.{◌≡◌, ℕ, List, take}
use Rattle.scheme_model.specs.Requirements.{LibraryName}
use Rattle.scheme_model.specs.Program.{ImportSpec}
use Rattle.core_tree.specs.Names.{AllMatch}
use Rattle.read_documents.specs.UnitSources.{IsSpec}
use Rattle.unit_imports.proofs.SecondLaws.{all_seconds}
use Rattle.unit_imports.proofs.seconds.seconds_in.Given as goal

-- those of the sets so far
abbrev pub invariant-loop-spec : goal.invariant-loop-spec
invariant-loop-spec l = (spelled : LibraryName → List ℕ) (ss : List ImportSpec) → AllMatch (IsSpec spelled) l.specs ss → l.places ≡ all_seconds (take l.spec-index ss)
