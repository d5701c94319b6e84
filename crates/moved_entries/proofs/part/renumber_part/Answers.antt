use Rattle.std.proofs.Common.{map, refl, ap, ◌∙◌}
use Rattle.moves.specs.Numbers.{numbers_of}
use Rattle.moved_entries.specs.Part.{kept_as}
use Rattle.moved_entries.proofs.PartLaws.{part_on}
use Rattle.moved_entries.proofs.part.renumber_part.Goals as goal

pub returns : goal.returns
returns c =
    let r = numbers_of c.args.moves.now in
    let x = c.args.part.now in
    part_on r (λ u n. refl) x (record { asked = x.asked; notes = c.notes.new.items; macros = c.from_vec.result }) refl c.notes.ensures.moved c.notes.ensures.stand
    (c.from_vec.ensures ∙ c.macros.ensures ∙ ap (map (kept_as r)) c.take-all.ensures)
