use Rattle.std.proofs.Common.{◌≡◌, drop}
use Rattle.scheme_model.specs.Includes.{program_data}
use Rattle.datum_reader.specs.Views.{data_of}
use Rattle.library_table.proofs.programs.first_of_program.Given as goal

abbrev pub invariant-loop-datum : goal.invariant-loop-datum
invariant-loop-datum l = program_data (data_of (drop l.datum-index l.«data»)) ≡ program_data (data_of l.«data»)
