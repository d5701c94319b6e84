use Rattle.std.proofs.Common.{◌≡◌, ℕ, List, [], drop}
use Rattle.std.specs.Prelude.{Bool, Option}
use Rattle.scheme_model.specs.declared.Occ.{Occ}
use Rattle.scheme_model.specs.ProgramArrows.{program_table}
use Rattle.scheme_model.specs.IncludedUnits.{Placed}
use Rattle.scheme_model.specs.Program.{UnitResult, Program}
use Rattle.scheme_model.specs.Requirements.{LibraryName}
use Rattle.rename_model.specs.SameProgram.{name_asked}
use Rattle.rename_model.specs.Difference.{first_apart}
use Rattle.program_differences.specs.Both.{BothStand, AreNumbered}
use Rattle.program_differences.specs.Exported.{changes_as, AreGiven, all_exports}
use Rattle.program_differences.proofs.exports.exports_apart.Given as goal

-- what is first from an export on is first of all
abbrev pub invariant-loop-k : goal.invariant-loop-k
invariant-loop-k l =
    (text : LibraryName → List ℕ) (uris : List (List ℕ)) (before after : List Placed) (p q : Program) (r s : UnitResult) (live : Option Occ → Bool) →
    BothStand text uris before after l.programs p q l.both r s → AreNumbered l.programs p q → AreGiven p r → AreGiven q s →
    first_apart live [] (all_exports (program_table p) (name_asked (changes_as l.changes) l.both.place) r.unit.exports (drop l.k r.exports)) (all_exports (program_table q) (λ t. t) s.unit.exports (drop l.k s.exports))
    ≡ first_apart live [] (all_exports (program_table p) (name_asked (changes_as l.changes) l.both.place) r.unit.exports r.exports) (all_exports (program_table q) (λ t. t) s.unit.exports s.exports)
