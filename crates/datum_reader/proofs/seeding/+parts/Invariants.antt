use Rattle.datum_reader.specs.Seeding.{part_tree}
use Rattle.datum_reader.proofs.Rows.{RowAdds}
use Rattle.datum_reader.proofs.seeding.+parts.Given as goal

abbrev pub invariant-seed_parts-loop-part : goal.invariant-seed_parts-loop-part
invariant-seed_parts-loop-part l =
    RowAdds (part_tree l.taken.into l.taken.home) l.fn.work l.work l.region l.parts l.part-index l.trees.items
