use Rattle.std.proofs.Common.{◌∙◌, sym, ap, List, slice_get, arith}
use Rattle.scheme_model.specs.Data.{Datum}
use Rattle.unit_sources.proofs.ProgramRows.{library_passed, first_there, none_left}
use Rattle.library_table.proofs.programs.first_of_program.Goals as goal

pub returns-then-not-is_headed : goal.returns-then-not-is_headed
returns-then-not-is_headed c =
    first_there c.args.«data».now c.loop-datum.datum-index c.datum-item.result (omega arith) c.datum-item.is (sym c.if-not-is_headed.ensures) ∙ ap (λ (ds : List Datum). slice_get ds 0) c.loop-datum.invariant

pub loop-datum-preserved : goal.loop-datum-preserved
loop-datum-preserved c = library_passed c.args.«data».now c.loop-datum.datum-index c.datum-item.result (omega arith) c.datum-item.is (sym c.if-not-is_headed.ensures) ∙ c.loop-datum.invariant

pub returns : goal.returns
returns c = ap (λ (ds : List Datum). slice_get ds 0) (sym (none_left c.args.«data».now c.loop-datum.datum-index (omega arith)) ∙ c.loop-datum.invariant)
