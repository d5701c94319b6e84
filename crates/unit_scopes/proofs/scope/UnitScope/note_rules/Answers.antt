use Rattle.std.proofs.Common.{List, ◌++◌, false, refl, sym, subst}
use Rattle.std.proofs.lemmas.Option.{slice_get_within}
use Rattle.scheme_model.specs.Meaning.{head_as}
use Rattle.scheme_model.specs.Order.{Note, is_some, rules_parts_of}
use Rattle.scheme_model.specs.CountedExpansion.{means_here}
use Rattle.scheme_model.specs.ScopedExpansion.{FramedIdent, macro_at}
use Rattle.unit_scopes.specs.Kept.{NotesFor}
use Rattle.unit_scopes.specs.declared.asked.Note.TheVariants as notes
use Rattle.unit_scopes.proofs.NotesStand.{note_more}
use Rattle.unit_scopes.proofs.SyntaxLaws.{no_note, a_note, looked, head_known}
use Rattle.unit_scopes.proofs.scope.UnitScope.note_rules.Goals as goal

pub returns-in_default-clause-notes : goal.returns-in_default-clause-notes
returns-in_default-clause-notes c = λ known ls s fs t ns stands at for kept.
    subst (λ (xs : List (Note FramedIdent)). NotesFor c.args.work.now ls c.args.asked.now (xs ++ ns)) (sym (no_note known c.args.work.now.symbols fs s (rules_parts_of t) (c.in_default.ensures t for))) kept

pub head_of-requires-clause-ident : goal.head_of-requires-clause-ident
head_of-requires-clause-ident c =
    let names = c.args.work.now.symbols in
    let t = c.requires.rules in
    let h = head_known names c.in-Some.ident (rules_parts_of t.0) (c.in-Some.ensures t.0 t.1) in
    slice_get_within names.idents c.in-Some.ident h.0 h.1

pub push-requires : goal.push-requires
push-requires c =
    let names = c.args.work.now.symbols in
    let t = c.requires.rules in
    let h = head_known names c.in-Some.ident (rules_parts_of t.0) (c.in-Some.ensures t.0 t.1) in
    (slice_get_within names.idents c.in-Some.ident h.0 h.1, tt)

pub returns-clause-notes : goal.returns-clause-notes
returns-clause-notes c = λ known ls s fs t ns stands at for kept.
    let w = c.args.work.now in
    let h = a_note known w.symbols fs s c.in-Some.ident (rules_parts_of t) (c.in-Some.ensures t for) in
    let head = c.head_of.ensures ls s fs h.0 stands at h.1 in
    let key = c.is_keyword-keyword.ensures (head_as (λ x. is_some (macro_at s.macros x)) (means_here s fs h.0)) head in
    subst (λ (xs : List (Note FramedIdent)). NotesFor w ls c.push.new.self (xs ++ ns)) (sym h.2)
    (note_more w ls c.args.asked.now c.push.new.self (notes.LookedUp (record { scope = c.args.scope; ident = c.in-Some.ident }) false c.is_keyword-keyword.result) (looked known w.symbols fs s h.0) ns c.in_ok-push.ensures.notes (c.in_ok-push.ensures.stands kept.asks)
    ((at, h.1), refl, key) kept)
