use Rattle.std.proofs.Common.{◌<◌, length, arith}
use Rattle.scheme_model.specs.Includes.{naming}
use Rattle.text_parts.proofs.NameLaws.{length_naming}
use Rattle.text_parts.proofs.PartLaws.{part_told}
use Rattle.text_parts.proofs.parts.part_of.Goals as goal

pub returns : goal.returns
returns c = λ ds lt h read reached placed.
    let there : c.args.place < length (naming ds) = omega (arith, length_naming ds) in
    part_told ds c.args.place c.args.reach c.args.program c.args.reads c.is_part-is_part.result c.is_usable-is_usable.result lt read reached placed
    (c.is_part-is_part.ensures (naming ds) h there reached) c.is_usable-is_usable.ensures
