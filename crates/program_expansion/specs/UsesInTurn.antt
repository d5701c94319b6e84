-- The macro uses that are counted while units are expanded in their turns (R7RS 4.3, 5.6).
use Rattle.std.specs.Prelude.{ℕ, ◌+◌, List, slice_get, Option}
use Rattle.std.specs.List.{fold}
use Rattle.scheme_model.specs.Requirements.{Known}
use Rattle.scheme_model.specs.IncludedUnits.{Placed}
use Rattle.scheme_model.specs.Program.{Prepared, prepare}
use Rattle.scheme_model.specs.ScopedProgram.{ScopedProgress, scoped_worked, scoped_before}
use Rattle.macro_uses.specs.ScopedUses.{scoped_worked_uses}

-- what is expanded so far, and the macro uses that were counted
abbrev pub counted_worked : List Placed → Known → Option Prepared → ScopedProgress × ℕ → ScopedProgress × ℕ
counted_worked all known o c = (scoped_worked all (prepare all 0 all) known o c.0, c.1 + scoped_worked_uses all (prepare all 0 all) known o c.0)

abbrev pub counted_by_number : List Placed → Known → ScopedProgress × ℕ → ℕ → ScopedProgress × ℕ
counted_by_number all known c n = counted_worked all known (slice_get (prepare all 0 all) n) c

-- after the units at these places
abbrev pub uses_at : List Placed → Known → List ℕ → ℕ
uses_at all known places = (fold (counted_by_number all known) (scoped_before, 0) places).1
