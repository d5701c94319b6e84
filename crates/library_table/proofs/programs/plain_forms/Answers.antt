use Rattle.std.proofs.Common.{map, arith}
use Rattle.scheme_model.specs.Declarations.{plain_form}
use Rattle.scheme_model.specs.Includes.{program_data}
use Rattle.datum_reader.specs.Views.{data_of}
use Rattle.unit_sources.specs.UnitsRead.{forms_of}
use Rattle.unit_sources.proofs.ProgramRows.{plain_more, plain_end}
use Rattle.library_table.proofs.programs.plain_forms.Goals as goal

pub loop-datum-preserved : goal.loop-datum-preserved
loop-datum-preserved c =
    let ds = c.args.«data».now in
    plain_more ds c.loop-datum.datum-index c.datum-item.result (omega arith) c.datum-item.is (forms_of c.loop-datum.forms.items) (forms_of c.add_plain.new.forms.items) (map plain_form (program_data (data_of ds))) c.loop-datum.invariant c.in_ok-add_plain.ensures

pub returns : goal.returns
returns c =
    let ds = c.args.«data».now in
    plain_end ds c.loop-datum.datum-index (forms_of c.loop-datum.forms.items) (map plain_form (program_data (data_of ds))) (omega arith) c.loop-datum.invariant
