use Rattle.std.proofs.Common.{refl}
use Rattle.std.proofs.lemmas.Option.{slice_get_within}
use Rattle.syntax_tree.proofs.Places.{get_within}
use Rattle.noted_steps.specs.Noting.{state_of}
use Rattle.noted_steps.proofs.NoteLaws.{plainly}
use Rattle.noted_steps.proofs.noted.note_name.Goals as goal

pub note-requires : goal.note-requires
note-requires c =
    let l = c.requires.look in
    let names = c.args.work.now.symbols in
    let i = get_within names.idents c.args.name.ident c.requires.ident in
    let t = c.target-target.ensures l.layout l.state l.frames (record { name = i.0; occ = c.args.name.occ }) l.stands l.at (i.1, refl) in
    slice_get_within names.idents c.target-target.result.ident i.0 t.ident

pub returns-clause-noted : goal.returns-clause-noted
returns-clause-noted c = λ known ls s fs n e at is.
    c.note.ensures.noted known ls s fs n e (c.target-target.ensures ls (state_of s) fs n (plainly c.args.work.now c.args.units.now ls s e) at is)
