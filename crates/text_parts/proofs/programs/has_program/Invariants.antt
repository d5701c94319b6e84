use Rattle.std.proofs.Common.{◌≡◌, ℕ, ◌<◌, get_or, true}
use Rattle.scheme_model.specs.Declarations.{is_library}
use Rattle.datum_reader.specs.declared.datum.Datum.{Datum}
use Rattle.datum_reader.specs.Views.{datum_of}
use Rattle.text_parts.proofs.programs.has_program.Given as goal

abbrev pub invariant-loop-datum : goal.invariant-loop-datum
invariant-loop-datum l = (k : ℕ) (d : Datum) → k < l.datum-index → is_library (datum_of (get_or l.data k d)) ≡ true
