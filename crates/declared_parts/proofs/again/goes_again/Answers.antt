use Rattle.std.proofs.Common.{◌∷◌, refl, sym, subst}
use Rattle.form_notes.specs.declared.notes.Note.{Note}
use Rattle.note_laws.specs.Told.{told}
use Rattle.declared_parts.specs.Going.{HasGoneBy, KeptFrom, Tells}
use Rattle.declared_parts.proofs.LaterGoing.{can_ask, gone_later, note_is}
use Rattle.declared_parts.proofs.again.goes_again.Goals as goal

pub has_answer_here-requires : goal.has_answer_here-requires
has_answer_here-requires c =
    let q = c.requires in let can = q.2 in let h = q.4 in
    (_, _, can_ask c.args.work.now q.0 q.1 c.args.part.now can c.args.units.now c.args.going.now q.3 h h.moment refl refl, (told can.again.before q.7.0, q.7.1.1))

pub returns-in-None : goal.returns-in-None
returns-in-None c = λ old n can left made q h asked kept t.
    gone_later c.args.work.now old n c.args.part.now can c.args.units.now c.args.going.now made h c.args.note.now (sym c.in-None.ensures) asked c.has_answer_here.result c.has_answer_here.ensures.later left kept c.has_answer_here.ensures.first

pub defines_again-requires : goal.defines_again-requires
defines_again-requires c =
    let q = c.requires in let can = q.2 in let work = c.args.work.now in let part = c.args.part.now in let x = c.args.note.now in let g = c.args.going.now in
    let same = note_is x q.3 c.in-Some.definition c.in-Some.answer (sym c.in-Some.ensures) q.5 in
    (q.0, q.1, can, q.3, q.4, (q.6.0, subst (λ (y : Note). KeptFrom work q.0 q.1 part can g.macros (y ∷ q.6.0)) same q.6.1), (q.7.0, subst (λ (y : Note). Tells work q.0 q.1 part can y q.7.0) same q.7.1))

pub returns-in-Some : goal.returns-in-Some
returns-in-Some c = λ old n can left made q h asked kept t.
    let work = c.args.work.now in let part = c.args.part.now in let x = c.args.note.now in let g = c.args.going.now in
    let same = note_is x made c.in-Some.definition c.in-Some.answer (sym c.in-Some.ensures) asked in
    subst (λ (y : Note). HasGoneBy work old n part can y left made c.defines_again.new.units c.defines_again.new.going c.defines_again.result) (sym same)
    (c.defines_again.ensures old n can left made q h (subst (λ (y : Note). KeptFrom work old n part can g.macros (y ∷ left)) same kept) (subst (λ (y : Note). Tells work old n part can y q) same t))
