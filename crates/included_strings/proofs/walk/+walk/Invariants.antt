use Rattle.std.proofs.Common.{◌≡◌, ◌++◌, take}
use Rattle.datum_reader.specs.Views.{data_of}
use Rattle.included_strings.specs.Strings.{texts_in_all, texts_now}
use Rattle.included_strings.proofs.walk.+walk.Given as goal

abbrev pub invariant-add_parts-loop-part : goal.invariant-add_parts-loop-part
invariant-add_parts-loop-part l = texts_now l.strings.items ≡ texts_now l.fn.strings.items ++ texts_in_all (data_of (take l.part-index l.parts))
