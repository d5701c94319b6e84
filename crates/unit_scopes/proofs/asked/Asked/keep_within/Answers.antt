use Rattle.std.proofs.Common.{◌≡◌, List, ◌++◌, map, take, drop, length, slice_get, Some, ap, ◌∙◌, subst, arith}
use Rattle.std.proofs.lemmas.List.{length-map}
use Rattle.unit_scopes.specs.Within.{note_within}
use Rattle.unit_scopes.specs.declared.asked.Note.{Note}
use Rattle.unit_scopes.proofs.WithinLaws.{notes_fit, notes_same, whole_slice}
use Rattle.unit_scopes.proofs.asked.Asked.keep_within.Goals as goal

pub returns-then-self-last-clause-notes : goal.returns-then-self-last-clause-notes
returns-then-self-last-clause-notes c =
    let a = c.args.self.now in
    notes_same c.args.last a.notes.items (λ n note there. let h = a.within n note there in omega (arith, h, c.if-self-last.true))

pub invariant_of-self : goal.invariant_of-self
invariant_of-self c =
    let old = c.args.self.now.notes in
    let new = c.all_within.new.notes in
    let is : new ≡ map (note_within c.args.last) old.items = c.all_within.ensures ∙ ap (map (note_within c.args.last)) c.as_mut_slice.ensures.value in
    let whole : take old.len (new ++ drop (length new) old.items) ≡ new = whole_slice old.len new old.items (ap length is ∙ length-map old.items (note_within c.args.last)) (omega (arith, old.ok.0)) in
    record { within = λ n note there. notes_fit c.args.last old.items n note (subst (λ (xs : List Note). slice_get xs n ≡ Some note) (whole ∙ is) there) }
