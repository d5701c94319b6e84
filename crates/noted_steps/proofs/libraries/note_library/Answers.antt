use Rattle.std.proofs.Common.{◌≡◌, List, [], ◌∷◌, ◌++◌, Bool, Err, sym, ap, ◌∙◌, subst}
use Rattle.std.specs.BTreeSet.{contains_text}
use Rattle.scheme_model.specs.Ident.{symbol_of}
use Rattle.scheme_model.specs.Requirements.{LibraryName, library_name_of, name_asked}
use Rattle.feature_requirements.specs.Judged.{ReadsName}
use Rattle.feature_requirements.specs.declared.requirements.ShapeFault.{ShapeFault}
use Rattle.form_notes.specs.Noted.{required}
use Rattle.form_notes.specs.Standing.{NotingStands}
use Rattle.noted_steps.specs.Asked.{library_behind, names_asked}
use Rattle.noted_steps.specs.Standing.{Stands, with_notes}
use Rattle.noted_steps.proofs.LibraryLaws.{not_named, one_named}
use Rattle.noted_steps.proofs.NoteLaws.{notes_stand, lost_stands}
use Rattle.noted_steps.proofs.libraries.note_library.Goals as goal

pub returns-then-parts-ne2-clause-noted : goal.returns-then-parts-ne2-clause-noted
returns-then-parts-ne2-clause-noted c = λ known ls s ts knows e stands.
    subst (λ (ns : List LibraryName). Stands c.args.work.now c.args.units.now ls (names_asked known ns s)) (sym (not_named c.args.work.now c.args.parts.now ts c.if-parts-ne2.true stands)) e

pub library_name-requires : goal.library_name-requires
library_name-requires c =
    let p = one_named c.args.work.now c.args.parts.now (record { number = 0 }) c.requires.0 c.if-parts-ne2.false c.requires.1 in
    (p.0, p.2)

pub returns-in-Ok-clause-noted : goal.returns-in-Ok-clause-noted
returns-in-Ok-clause-noted c = λ known ls s ts knows e stands.
    let w = c.args.work.now in
    let u = c.args.units.now in
    let p = one_named w c.args.parts.now (record { number = 0 }) ts c.if-parts-ne2.false stands in
    let r = c.in-Ok.ensures p.0 p.2 in
    let n = r.0 in
    let is : library_behind ts ≡ n ∷ [] = p.1 ∙ ap name_asked r.1 in
    let tells = (c.contains-answer.ensures ∙ ap (contains_text u.libraries) (c.as_str.ensures.value ∙ r.2)) ∙ sym (knows n r.3) in
    let text = c.from_string-name.ensures ∙ r.2 in
    subst (λ (ns : List LibraryName). Stands w (with_notes u c.require.new.self) ls (names_asked known ns s)) (sym is)
    (notes_stand w u ls s c.require.new.self (required n (known n) ++ s.noted) c.require.ensures.start (λ exact. subst (λ (b : Bool). NotingStands w.symbols c.require.new.self s.since (required n b ++ s.noted)) tells (c.require.ensures.noted w.symbols s.since s.noted n (e.notes exact) text)) e)

pub returns-in-Err-BadForm-clause-noted : goal.returns-in-Err-BadForm-clause-noted
returns-in-Err-BadForm-clause-noted c = λ known ls s ts knows e stands.
    let w = c.args.work.now in
    let p = one_named w c.args.parts.now (record { number = 0 }) ts c.if-parts-ne2.false stands in
    let r = subst (λ (x : ShapeFault). ReadsName (Err x) (library_name_of symbol_of p.0)) c.in-Err-BadForm.field-0-is (c.in-Err-BadForm.ensures p.0 p.2) in
    subst (λ (ns : List LibraryName). Stands w c.args.units.now ls (names_asked known ns s)) (sym (p.1 ∙ ap name_asked r)) e

pub returns-in-Err-Memory-clause-noted : goal.returns-in-Err-Memory-clause-noted
returns-in-Err-Memory-clause-noted c = λ known ls s ts knows e stands. lost_stands c.args.work.now c.args.units.now ls s (names_asked known (library_behind ts) s).noted e
