use Rattle.std.proofs.Common.{ℕ, List, map}
use Rattle.scheme_model.specs.Substitution.{Table}
use Rattle.rename_model.specs.Walks.{Point}
use Rattle.alpha_equal.specs.Filled.{KnowsNumbers}
use Rattle.alpha_equal.specs.Marks.{mark_of, AreMarks}
use Rattle.program_differences.proofs.FormLaws.{MarkedTo}
use Rattle.program_differences.proofs.forms.add_marks.Given as goal

abbrev pub invariant-loop-k : goal.invariant-loop-k
invariant-loop-k l =
    (table : Table) (unit form : ℕ) (ps : List Point) → KnowsNumbers l.work.symbols l.numbers table → AreMarks l.work table unit form (map mark_of l.marks) ps → MarkedTo l.work table unit form l.fn.points.items l.points.items l.marks ps l.k
