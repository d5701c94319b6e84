use Rattle.std.proofs.Common.{◌<◌, length, None, refl, sym, subst}
use Rattle.std.proofs.lemmas.Option.{slice_get_within}
use Rattle.scheme_model.specs.CountedExpansion.{means_here}
use Rattle.scheme_model.specs.Meaning.{head_as}
use Rattle.scheme_model.specs.Order.{is_some}
use Rattle.scheme_model.specs.ScopedExpansion.{macro_at}
use Rattle.core_forms.specs.Parts.{IsName}
use Rattle.core_forms.specs.declared.shape.NamePart.{NamePart}
use Rattle.syntax_tree.proofs.Places.{get_within}
use Rattle.noted_steps.specs.Noting.{state_of}
use Rattle.noted_steps.proofs.NoteLaws.{plainly}
use Rattle.noted_steps.proofs.marks.note_mark.Goals as goal

pub target-target-requires-clause-ident : goal.target-target-requires-clause-ident
target-target-requires-clause-ident c = subst (λ (x : NamePart). x.ident < length c.args.work.now.symbols.idents) (sym c.named.ensures) c.requires.ident

pub head_by-requires : goal.head_by-requires
head_by-requires c =
    let l = c.requires.look in
    let work = c.args.work.now in
    let i = get_within work.symbols.idents c.args.ident c.requires.ident in
    let name = subst (λ (x : NamePart). IsName work x (record { name = i.0; occ = None })) (sym c.named.ensures) (i.1, refl) in
    let t = c.target-target.ensures l.layout l.state l.frames (record { name = i.0; occ = None }) l.stands l.at name in
    (l.layout, (l.state, l.stands, (means_here l.state l.frames i.0, t.meaning)))

pub note-requires : goal.note-requires
note-requires c =
    let l = c.requires.look in
    let work = c.args.work.now in
    let i = get_within work.symbols.idents c.args.ident c.requires.ident in
    let name = subst (λ (x : NamePart). IsName work x (record { name = i.0; occ = None })) (sym c.named.ensures) (i.1, refl) in
    let t = c.target-target.ensures l.layout l.state l.frames (record { name = i.0; occ = None }) l.stands l.at name in
    slice_get_within work.symbols.idents c.target-target.result.ident i.0 t.ident

pub returns-clause-noted : goal.returns-clause-noted
returns-clause-noted c = λ known ls s fs i e at is.
    let work = c.args.work.now in
    let name = subst (λ (x : NamePart). IsName work x (record { name = i; occ = None })) (sym c.named.ensures) (is, refl) in
    c.note.ensures.noted known ls s fs (record { name = i; occ = None }) e (c.target-target.ensures ls (state_of s) fs (record { name = i; occ = None }) (plainly work c.args.units.now ls s e) at name)

pub returns-clause-mark : goal.returns-clause-mark
returns-clause-mark c = λ known ls s fs i e at is.
    let work = c.args.work.now in
    let p = plainly work c.args.units.now ls s e in
    let name = subst (λ (x : NamePart). IsName work x (record { name = i; occ = None })) (sym c.named.ensures) (is, refl) in
    let t = c.target-target.ensures ls (state_of s) fs (record { name = i; occ = None }) p at name in
    let m = means_here (state_of s) fs i in
    c.head_mark-keyword.ensures (head_as (λ x. is_some (macro_at s.macros x)) m) (c.head_by.ensures ls (state_of s) m p t.meaning)
