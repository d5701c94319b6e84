use Rattle.std.proofs.Common.{◌≡◌, ℕ, List, reverse, get_or, take, Some, sym, ap, ◌∙◌}
use Rattle.std.specs.Prelude.{slice_get}
use Rattle.std.proofs.lemmas.List.{take_more, take_all}
use Rattle.std.proofs.lemmas.Option.{slice_get_within, slice_get-get_or}
use Rattle.scheme_model.specs.Substitution.{any}
use Rattle.scheme_model.specs.CountedExpansion.{refused_here}
use Rattle.unit_scopes.specs.Asks.{asked_from}
use Rattle.unit_scopes.specs.Kept.{NoteFor}
use Rattle.unit_scopes.proofs.SearchedNotes.{at_matched, note_there, told_at, told_if, among_numbers, any_here, any_last}
use Rattle.unit_scopes.proofs.scope.UnitScope.is_refused.Goals as goal

pub note-requires : goal.note-requires
note-requires c =
    let names = c.args.work.now.symbols in
    let notes = c.args.asked.now.notes.items in
    let xs = c.of-numbers.result.now in
    let k = c.loop-number.number-index in
    let n = get_or xs k 0 in
    let can = c.requires in
    let same : xs ≡ asked_from names can.ident 0 notes = c.of-numbers.ensures ∙ can.notes.asks.numbers c.args.coming.bound.ident can.ident can.is in
    let at : slice_get xs k ≡ Some n = slice_get-get_or xs k 0 c.loop-number-test.true in
    let p = note_there names can.ident n notes k (ap (λ (l : List ℕ). slice_get l k) (sym same) ∙ at) in
    slice_get_within notes n p.0 p.1

pub is_changed-requires : goal.is_changed-requires
is_changed-requires c =
    let can = c.requires in
    let n = get_or c.of-numbers.result.now c.loop-number.number-index 0 in
    let q = at_matched (NoteFor c.args.work.now can.layout) c.args.asked.now.notes.items (reverse can.found) n c.note.result can.notes.notes c.note.ensures in
    (can.layout, can.state, can.means, q.0, can.comes, q.2)

pub loop-number-preserved : goal.loop-number-preserved
loop-number-preserved c = λ ls t m ns comes notes.
    let xs = c.of-numbers.result.now in
    let k = c.loop-number.number-index in
    let n = get_or xs k 0 in
    let g = refused_here t m c.args.coming.is_macro in
    let f = told_at g (reverse ns) in
    let q = at_matched (NoteFor c.args.work.now ls) c.args.asked.now.notes.items (reverse ns) n c.note.result notes.notes c.note.ensures in
    let last = ap (told_if g) q.1 ∙ (sym (c.is_changed.ensures ls t m q.0 comes q.2) ∙ c.if-is_changed.false) in
    ap (any f) (take_more xs k 0 c.loop-number-test.true) ∙ any_last f (take k xs) n (c.loop-number.invariant ls t m ns comes notes) last

pub returns-then-is_changed : goal.returns-then-is_changed
returns-then-is_changed c = λ ls t m x ns comes is notes.
    let names = c.args.work.now.symbols in
    let xs = c.of-numbers.result.now in
    let k = c.loop-number.number-index in
    let n = get_or xs k 0 in
    let g = refused_here t m c.args.coming.is_macro in
    let f = told_at g (reverse ns) in
    let q = at_matched (NoteFor c.args.work.now ls) c.args.asked.now.notes.items (reverse ns) n c.note.result notes.notes c.note.ensures in
    let here = ap (told_if g) q.1 ∙ (sym (c.is_changed.ensures ls t m q.0 comes q.2) ∙ c.if-is_changed.true) in
    let same : xs ≡ asked_from names x 0 c.args.asked.now.notes.items = c.of-numbers.ensures ∙ notes.asks.numbers c.args.coming.bound.ident x is in
    sym (any_here f xs k n (slice_get-get_or xs k 0 c.loop-number-test.true) here)
    ∙ (ap (any f) same ∙ among_numbers c.args.work.now ls x g c.args.asked.now.notes.items ns notes.notes)

pub returns : goal.returns
returns c = λ ls t m x ns comes is notes.
    let names = c.args.work.now.symbols in
    let xs = c.of-numbers.result.now in
    let k = c.loop-number.number-index in
    let g = refused_here t m c.args.coming.is_macro in
    let f = told_at g (reverse ns) in
    let same : xs ≡ asked_from names x 0 c.args.asked.now.notes.items = c.of-numbers.ensures ∙ notes.asks.numbers c.args.coming.bound.ident x is in
    sym (c.loop-number.invariant ls t m ns comes notes)
    ∙ (ap (any f) (take_all k xs c.loop-number-test.false) ∙ (ap (any f) same ∙ among_numbers c.args.work.now ls x g c.args.asked.now.notes.items ns notes.notes))
