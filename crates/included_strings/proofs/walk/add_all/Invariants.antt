use Rattle.std.proofs.Common.{◌≡◌, ◌++◌, take}
use Rattle.datum_reader.specs.Views.{data_of}
use Rattle.included_strings.specs.Strings.{strings_among, texts_now, texts_of}
use Rattle.included_strings.proofs.walk.add_all.Given as goal

abbrev pub invariant-loop-datum : goal.invariant-loop-datum
invariant-loop-datum l = texts_now l.strings.items ≡ texts_now l.fn.strings.items ++ texts_of (strings_among (data_of (take l.datum-index l.data)))
