use Rattle.std.proofs.Common.{List, reverse, sym, ap, ◌∙◌, subst}
use Rattle.core_tree.specs.Names.{AllMatch}
use Rattle.form_notes.specs.Standing.{HaveNotes, RisesTo}
use Rattle.form_notes.specs.declared.notes.Note.{Note}
use Rattle.declared_parts.specs.Parts.{OwnNoteFor, IsKeptMacro, keyword_notes, macros_taken}
use Rattle.declared_parts.specs.declared.parts.KeptMacro.{KeptMacro}
use Rattle.declared_parts.specs.declared.parts.OwnNote.{OwnNote}
use Rattle.declared_parts.proofs.PartLaws.{own_asked, kept_all, all_rise}
use Rattle.declared_parts.proofs.parts.take_part.Goals as goal

pub returns-clause-part : goal.returns-clause-part
returns-clause-part c = λ work ls s own found r ms stands declared roots macros tells.
    let u = c.args.units.now in
    let x = c.args.notes.now in
    let same = c.replace-taken.ensures.value in
    let kept = c.in_ok-macros.ensures ∙ ap (macros_taken u.macros u.form.number u.unit) c.as_slice.ensures in
    let all = kept_all work ls u s r ms stands.rests macros tells x.notes declared.notes.alone in
    record {
      asked = subst (λ (ys : List OwnNote). AllMatch (OwnNoteFor work.symbols) ys (reverse own)) (sym c.in_ok-asked.ensures) (own_asked work ls u.asked own found x.before stands.notes roots declared.before);
      notes = subst (λ (ys : List Note). HaveNotes work.symbols r ys ms) (sym same) declared.notes;
      made = declared.made;
      order = subst (λ (ys : List Note). RisesTo ys 0 declared.made) (sym same) (all_rise x.first x.notes declared.made declared.order declared.first);
      macros = subst (λ (ys : List KeptMacro). AllMatch (IsKeptMacro work r ms) ys (keyword_notes c.replace-taken.result)) (sym kept)
          (subst (λ (ys : List Note). AllMatch (IsKeptMacro work r ms) (macros_taken u.macros u.form.number u.unit x.notes) (keyword_notes ys)) (sym same) all);
    }
