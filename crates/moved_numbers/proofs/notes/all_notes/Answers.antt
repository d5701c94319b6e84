use Rattle.std.proofs.Common.{◌<◌, length, set, ap, ◌∙◌, arith}
use Rattle.std.proofs.lemmas.List.Edits.{map_over_more}
use Rattle.moves.specs.Numbers.{numbers_of}
use Rattle.moved_numbers.specs.Notes.{note_as}
use Rattle.moved_numbers.proofs.Fronts.{map_over_all}
use Rattle.moved_numbers.proofs.notes.all_notes.Goals as goal

pub loop-i-preserved : goal.loop-i-preserved
loop-i-preserved c =
    let f = note_as (numbers_of c.args.moves.now) in
    let xs = c.args.all.now.items in
    let ys = c.loop-i.all.items in
    let lt : c.loop-i.i < length xs = omega arith in
    ap (set ys c.loop-i.i) c.note.ensures ∙ map_over_more f xs ys c.loop-i.i c.index_mut.result.now lt c.loop-i.invariant c.index_mut.ensures.value

pub returns : goal.returns
returns c = map_over_all (note_as (numbers_of c.args.moves.now)) c.args.all.now.items c.loop-i.all.items c.loop-i.i (omega arith) c.loop-i.invariant
