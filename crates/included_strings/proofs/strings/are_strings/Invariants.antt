use Rattle.std.proofs.Common.{◌≡◌, drop}
use Rattle.std.specs.List.{list_all}
use Rattle.datum_reader.specs.Views.{data_of}
use Rattle.included_strings.specs.Strings.{is_string}
use Rattle.included_strings.proofs.strings.are_strings.Given as goal

abbrev pub invariant-loop-part : goal.invariant-loop-part
invariant-loop-part l = list_all is_string (data_of (drop l.part-index l.parts)) ≡ list_all is_string (data_of l.parts)
