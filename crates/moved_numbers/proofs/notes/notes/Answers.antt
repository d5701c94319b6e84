use Rattle.std.proofs.Common.{List, map, ap, sym, subst, ◌∙◌}
use Rattle.form_notes.specs.Standing.{HaveNotes, InOrder}
use Rattle.form_notes.specs.declared.notes.Note.{Note}
use Rattle.moves.specs.Numbers.{numbers_of}
use Rattle.moved_numbers.specs.Notes.{note_as, noted_as}
use Rattle.moved_numbers.proofs.NoteLaws.{notes_there, order_there}
use Rattle.moved_numbers.proofs.notes.notes.Goals as goal

pub returns-clause-moved : goal.returns-clause-moved
returns-clause-moved c = c.from_vec.ensures ∙ c.all_notes.ensures ∙ ap (map (note_as (numbers_of c.args.moves.now))) c.take-all.ensures

pub returns-clause-order : goal.returns-clause-order
returns-clause-order c first made h =
    let moved = c.from_vec.ensures ∙ c.all_notes.ensures ∙ ap (map (note_as (numbers_of c.args.moves.now))) c.take-all.ensures in
    subst (λ (xs : List Note). InOrder first xs made) (sym moved) (order_there (numbers_of c.args.moves.now) c.args.items.now first made h)

pub returns-clause-stand : goal.returns-clause-stand
returns-clause-stand c old new r s ms move same h =
    let moved = c.from_vec.ensures ∙ c.all_notes.ensures ∙ ap (map (note_as (numbers_of c.args.moves.now))) c.take-all.ensures in
    subst (λ (xs : List Note). HaveNotes new s xs (map (noted_as (numbers_of c.args.moves.now)) ms)) (sym moved) (notes_there (numbers_of c.args.moves.now) old new move r s same c.args.items.now ms h)
