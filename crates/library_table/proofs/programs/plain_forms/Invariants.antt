use Rattle.std.proofs.Common.{◌≡◌, ◌++◌, drop, map}
use Rattle.scheme_model.specs.Declarations.{plain_form}
use Rattle.scheme_model.specs.Includes.{program_data}
use Rattle.datum_reader.specs.Views.{data_of}
use Rattle.unit_sources.specs.UnitsRead.{forms_of}
use Rattle.library_table.proofs.programs.plain_forms.Given as goal

abbrev pub invariant-loop-datum : goal.invariant-loop-datum
invariant-loop-datum l = forms_of l.forms.items ++ map plain_form (program_data (data_of (drop l.datum-index l.«data»))) ≡ map plain_form (program_data (data_of l.«data»))
