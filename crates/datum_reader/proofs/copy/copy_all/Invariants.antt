use Rattle.std.proofs.Common.{◌≡◌, take}
use Rattle.datum_reader.specs.Views.{data_of}
use Rattle.datum_reader.proofs.copy.copy_all.Given as goal

abbrev pub invariant-loop-part : goal.invariant-loop-part
invariant-loop-part l = data_of l.copies.items ≡ data_of (take l.part-index l.parts)
