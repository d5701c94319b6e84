use Rattle.std.proofs.Common.{◌≡◌, ℕ, ◌+◌, ◌<◌, ◌≤◌, List, length, get_or, drop, Bool, Ok, ap, ◌∙◌, subst}
use Rattle.form_notes.specs.declared.notes.Note.{Note}
use Rattle.unit_scopes.specs.declared.scope.UnitScope.{UnitScope}
use Rattle.declared_parts.specs.Again.{CanDeclare}
use Rattle.declared_parts.specs.Going.{HasGoneBy}
use Rattle.declared_parts.proofs.EndGoing.{SoFar, first_so_far, asked_here, kept_here, told_here, next_so_far, ends_so_far, all_so_far}
use Rattle.declared_parts.proofs.again.go_on.Goals as goal

pub loop-note-init : goal.loop-note-init
loop-note-init c =
    let q = c.requires in let work = c.args.work.now in let part = c.args.part.now in let u = c.args.units.now in let g = c.args.going.now in
    record {
      some = (q.0, q.1, q.2, first_so_far work q.0 q.1 part q.2 u g q.3 q.4);
      all = λ old n can h none. first_so_far work old n part can u g h none;
    }

pub goes_again-requires : goal.goes_again-requires
goes_again-requires c =
    let work = c.args.work.now in let part = c.args.part.now in let notes = c.as_slice-notes.ensures in
    let u = c.loop-note.units in let g = c.loop-note.going in let k = c.loop-note.note-index in let x = c.note-item.result in
    let at : k < length part.notes = subst (λ (l : List Note). k < length l) notes c.loop-note-test.true in
    let is : x ≡ get_or part.notes k x = c.note-item.is ∙ ap (λ (l : List Note). get_or l k x) notes in
    let q = c.loop-note.invariant.some in let s = q.3 in
    (q.0, q.1, q.2, s.made, s.goes, asked_here work q.0 q.1 part q.2 k x at is u g s, (drop (k + 1) part.notes, kept_here work q.0 q.1 part q.2 k x at is u g s), told_here work q.0 q.1 part q.2 k x at is u g s)

pub loop-note-preserved : goal.loop-note-preserved
loop-note-preserved c =
    let work = c.args.work.now in let part = c.args.part.now in let notes = c.as_slice-notes.ensures in
    let u = c.loop-note.units in let g = c.loop-note.going in let k = c.loop-note.note-index in let x = c.note-item.result in
    let v = c.goes_again.new.units in let e = c.goes_again.new.going in
    let at : k < length part.notes = subst (λ (l : List Note). k < length l) notes c.loop-note-test.true in
    let is : x ≡ get_or part.notes k x = c.note-item.is ∙ ap (λ (l : List Note). get_or l k x) notes in
    let next : (old : UnitScope) (n : ℕ) (can : CanDeclare work old n part) → SoFar work old n part can u g k → SoFar work old n part can v e (k + 1) =
    λ old n can s. next_so_far work old n part can k x at is u g s v e
    (subst (λ (b : Bool). HasGoneBy work old n part can x (drop (k + 1) part.notes) s.made v e (Ok b)) c.if-not-branch.false
    (let t = told_here work old n part can k x at is u g s in c.in_ok-goes_again.ensures old n can (drop (k + 1) part.notes) s.made t.0 s.goes (asked_here work old n part can k x at is u g s) (kept_here work old n part can k x at is u g s) t.1)) in
    let q = c.loop-note.invariant.some in
    record {
      some = (q.0, q.1, q.2, next q.0 q.1 q.2 q.3);
      all = λ old n can h none. next old n can (c.loop-note.invariant.all old n can h none);
    }

pub returns-then-not-branch : goal.returns-then-not-branch
returns-then-not-branch c = λ old n can h none.
    let work = c.args.work.now in let part = c.args.part.now in let notes = c.as_slice-notes.ensures in
    let u = c.loop-note.units in let g = c.loop-note.going in let k = c.loop-note.note-index in let x = c.note-item.result in
    let v = c.goes_again.new.units in let e = c.goes_again.new.going in
    let at : k < length part.notes = subst (λ (l : List Note). k < length l) notes c.loop-note-test.true in
    let is : x ≡ get_or part.notes k x = c.note-item.is ∙ ap (λ (l : List Note). get_or l k x) notes in
    let s = c.loop-note.invariant.all old n can h none in
    ends_so_far work old n part can k x at is u g s v e
    (subst (λ (b : Bool). HasGoneBy work old n part can x (drop (k + 1) part.notes) s.made v e (Ok b)) c.if-not-branch.true
    (let t = told_here work old n part can k x at is u g s in c.in_ok-goes_again.ensures old n can (drop (k + 1) part.notes) s.made t.0 s.goes (asked_here work old n part can k x at is u g s) (kept_here work old n part can k x at is u g s) t.1))

pub returns : goal.returns
returns c = λ old n can h none.
    let part = c.args.part.now in
    all_so_far c.args.work.now old n part can c.loop-note.note-index c.loop-note.units c.loop-note.going (subst (λ (l : List Note). length l ≤ c.loop-note.note-index) c.as_slice-notes.ensures c.loop-note-test.false) (c.loop-note.invariant.all old n can h none)
