use Rattle.std.proofs.Common.{◌≡◌, suc, ◌+◌, [], ◌∷◌, ◌++◌, reverse, take, false, append_assoc, append-nil, sym, ap, ◌∙◌, subst, arith}
use Rattle.std.proofs.lemmas.List.{take_all, reverse-append, reverse-reverse}
use Rattle.core_tree.specs.Names.{AllMatch}
use Rattle.unit_scopes.specs.Asks.{AreWithin, idents_of}
use Rattle.unit_scopes.specs.Kept.{NoteFor}
use Rattle.unit_scopes.specs.declared.asked.Note as asked
use Rattle.declared_parts.specs.Parts.{OwnNoteFor}
use Rattle.declared_parts.specs.declared.parts.OwnNote as code
use Rattle.declared_parts.specs.declared.parts.OwnNote.TheVariants as own
use Rattle.declared_parts.proofs.OwnLaws.{match_at, matched_last, matched_length, taken_more, note_for, note_within}
use Rattle.declared_parts.proofs.defining.own_in.Goals as goal

abbrev d : code.OwnNote
d = own.LookedUp 0 false false

pub push-requires : goal.push-requires
push-requires c =
    let names = c.args.work.now.symbols in
    let h = match_at (OwnNoteFor names) c.args.notes.now c.requires.1 c.loop-note.note-index d c.requires.2 c.loop-note-test.true in
    subst (λ (n : asked.Note). AreWithin names (idents_of n)) (sym c.at.ensures) (note_within names c.args.root _ h.0 h.2)

pub loop-note-init : goal.loop-note-init
loop-note-init c = λ ls ms ns at own notes. (subst (AllMatch (NoteFor c.args.work.now ls) c.args.asked.now.notes.items) (sym (append-nil (reverse ns))) notes.notes, notes.asks)

pub loop-note-preserved : goal.loop-note-preserved
loop-note-preserved c = λ ls ms ns at own notes.
    let work = c.args.work.now in
    let k = c.loop-note.note-index in
    let P = NoteFor work ls in
    let h = match_at (OwnNoteFor work.symbols) c.args.notes.now ms k d own c.loop-note-test.true in
    let before = c.loop-note.invariant ls ms ns at own notes in
    let next : suc k ≡ k + 1 = omega arith in
    let more : reverse ns ++ take (k + 1) ms ≡ (reverse ns ++ take k ms) ++ h.0 ∷ [] = ap (λ n. reverse ns ++ take n ms) (sym next) ∙ (ap (λ l. reverse ns ++ l) (taken_more ms k h.0 h.1) ∙ sym (append_assoc (reverse ns) (take k ms) (h.0 ∷ []))) in (
      subst (λ l. AllMatch P c.push.new.self.notes.items l) (sym more)
          (subst (λ l. AllMatch P l ((reverse ns ++ take k ms) ++ h.0 ∷ [])) (sym c.in_ok-push.ensures.notes)
          (matched_last P c.loop-note.asked.notes.items (reverse ns ++ take k ms) c.at.result h.0 before.0
          (subst (λ (n : asked.Note). P n h.0) (sym c.at.ensures) (note_for work ls c.args.root at _ h.0 h.2)))),
      c.in_ok-push.ensures.stands before.1,
    )

pub returns : goal.returns
returns c = λ ls ms ns at own notes.
    let before = c.loop-note.invariant ls ms ns at own notes in
    let long = matched_length (OwnNoteFor c.args.work.now.symbols) c.args.notes.now ms own in
    let all : take c.loop-note.note-index ms ≡ ms = take_all c.loop-note.note-index ms (omega (arith, long, c.loop-note-test.false)) in
    let turned : reverse (reverse ms ++ ns) ≡ reverse ns ++ ms = reverse-append (reverse ms) ns ∙ ap (λ l. reverse ns ++ l) (reverse-reverse ms) in
    record {
      notes = subst (AllMatch (NoteFor c.args.work.now ls) c.loop-note.asked.notes.items) (ap (λ l. reverse ns ++ l) all ∙ sym turned) before.0;
      asks = before.1;
    }
