use Rattle.std.proofs.Common.{◌+◌, ◌∷◌, drop, sym, ap, ◌∙◌}
use Rattle.form_notes.specs.declared.notes.Note.{Note}
use Rattle.declared_parts.proofs.PartLaws.{item_then, taken_more}
use Rattle.declared_parts.proofs.parts.own_macros.Goals as goal

pub loop-note-preserved : goal.loop-note-preserved
loop-note-preserved c =
    let u = c.args.units.now in
    let xs = c.args.notes.now in
    let k = c.loop-note.note-index in
    let x = c.note-item.result in
    let split = item_then k xs x c.loop-note-test.true ∙ ap (λ (y : Note). y ∷ drop (k + 1) xs) (sym c.note-item.is) in
    taken_more u.macros u.form.number u.unit k xs x c.loop-note.macros c.add_macro.new.macros split c.in_ok-add_macro.ensures c.loop-note.invariant
