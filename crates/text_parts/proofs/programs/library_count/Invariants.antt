use Rattle.std.proofs.Common.{◌≡◌, ◌≤◌, length, filter, take}
use Rattle.scheme_model.specs.Declarations.{is_library}
use Rattle.datum_reader.specs.Views.{data_of}
use Rattle.text_parts.proofs.programs.library_count.Given as goal

abbrev pub invariant-loop-datum : goal.invariant-loop-datum
invariant-loop-datum l = (l.count ≡ length (filter is_library (data_of (take l.datum-index l.data)))) × (l.count ≤ l.datum-index)
