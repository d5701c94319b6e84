use Rattle.std.proofs.Common.{refl, ap, ◌∙◌}
use Rattle.scheme_model.specs.Includes.{program_data}
use Rattle.datum_reader.specs.Views.{data_of}
use Rattle.unit_sources.specs.UnitsRead.{forms_of}
use Rattle.unit_sources.proofs.ProgramRows.{part_read}
use Rattle.library_table.proofs.programs.read_part.Goals as goal

pub returns : goal.returns
returns c = λ d rest e span unit.
    part_read unit _ (program_data (data_of c.args.«data».now)) d rest e (ap forms_of c.from_vec.ensures ∙ c.in_ok-forms.ensures) refl refl span c.new.ensures c.new-2.ensures c.new-3.ensures
