use Rattle.std.proofs.Common.{◌≡◌, ℕ, ◌<◌, ◌≤◌, List, length, take, get_or, refl, sym, ◌∙◌, subst}
use Rattle.std.specs.List.{All, Contains}
use Rattle.std.proofs.lemmas.List.{take_all}
use Rattle.std.proofs.lemmas.List.Elements.{All-more, Contains-get_or}
use Rattle.form_notes.specs.declared.notes.Note.{Note}
use Rattle.note_answers.specs.Answered.{HasAnswer}
use Rattle.note_answers.proofs.AllLaws.{all_have, one_has_none}
use Rattle.note_answers.proofs.RootLaws.{true_false}
use Rattle.note_answers.proofs.answers.still_good.Goals as goal
use Rattle.note_answers.proofs.answers.still_good.Goals.{else-note-eq0-via-then-note-eq0+else-not-has_answer, else-note-eq0-via-else-note-eq0}

-- a note at its place is among the notes
among : (xs : List Note) (k : ℕ) (x : Note) → k < length xs → x ≡ get_or xs k x → Contains xs x
among xs k x within is = subst (Contains xs) (sym is) (Contains-get_or xs k x within)

pub has_answer-requires : goal.has_answer-requires
has_answer-requires c =
    let q = c.requires in
    let m = q.3.1.alone c.note-item.result (among c.args.notes.now c.loop-note.note-index c.note-item.result c.loop-note-test.true c.note-item.is) in
    (q.0, q.1, q.2, (m.0, m.2))

pub returns-then-not-has_answer-clause-exact : goal.returns-then-not-has_answer-clause-exact
returns-then-not-has_answer-clause-exact c = λ v r ms can have all.
    let x = c.note-item.result in
    let there = among c.args.notes.now c.loop-note.note-index x c.loop-note-test.true c.note-item.is in
    let e = c.has_answer.ensures in (
      λ h. absurd (true_false (sym h)),
      λ have_all. absurd (one_has_none c.args.work.now c.args.units.now v r c.args.notes.now ms can have all.outside x there c.if-note-eq0.true
          (λ m note ends. true_false (sym (e.ends r m note ends) ∙ c.if-not-has_answer.true))
          (λ m note outside is. true_false (sym ((e.answer v r m can note outside (all.editions x there)).1 is) ∙ c.if-not-has_answer.true))
          have_all),
    )

pub loop-note-preserved : goal.loop-note-preserved
loop-note-preserved c =
    let x = c.note-item.result in
    let P : Note → Type 0 = λ y. y.behind ≡ 0 → HasAnswer c.args.work.now c.args.units.now y in
    let here : P x =
    elim c.else-note-eq0.branch [
      | else-note-eq0-via-then-note-eq0+else-not-has_answer w ↦ λ start v r m can note outside. w.has_answer.ensures.only v r m can note outside w.if-not-has_answer.false
      | else-note-eq0-via-else-note-eq0 w ↦ λ start. absurd (w.if-note-eq0.false start)
    ] in
    All-more P c.args.notes.now c.loop-note.note-index x c.loop-note-test.true c.loop-note.invariant (subst P c.note-item.is here)

pub returns-clause-exact : goal.returns-clause-exact
returns-clause-exact c = λ v r ms can have all.
    let P : Note → Type 0 = λ y. y.behind ≡ 0 → HasAnswer c.args.work.now c.args.units.now y in
    let end : length c.args.notes.now ≤ c.loop-note.note-index = c.loop-note-test.false in
    let whole : take c.loop-note.note-index c.args.notes.now ≡ c.args.notes.now = take_all c.loop-note.note-index c.args.notes.now end in
    (λ h. all_have c.args.work.now c.args.units.now v r c.args.notes.now ms can have all.outside (subst (All P) whole c.loop-note.invariant), λ h. refl)

pub returns-clause-only : goal.returns-clause-only
returns-clause-only c = λ v r ms can have outside h.
    let P : Note → Type 0 = λ y. y.behind ≡ 0 → HasAnswer c.args.work.now c.args.units.now y in
    let end : length c.args.notes.now ≤ c.loop-note.note-index = c.loop-note-test.false in
    let whole : take c.loop-note.note-index c.args.notes.now ≡ c.args.notes.now = take_all c.loop-note.note-index c.args.notes.now end in
    all_have c.args.work.now c.args.units.now v r c.args.notes.now ms can have outside (subst (All P) whole c.loop-note.invariant)
