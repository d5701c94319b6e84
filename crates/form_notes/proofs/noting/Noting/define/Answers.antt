use Rattle.std.proofs.Common.{◌+◌, ℕ, List, ◌∷◌, length, refl, sym, ap, ◌∙◌, subst, add-one}
use Rattle.std.specs.BTreeSet.{BTreeSet}
use Rattle.scheme_model.specs.Questions.{Defines, Ends, Stands}
use Rattle.form_notes.specs.Noted.{Noted}
use Rattle.form_notes.specs.Standing.{HaveNotes, InOrder, OwnStands}
use Rattle.form_notes.specs.declared.notes.Note as code_note
use Rattle.form_notes.specs.declared.notes.Outcome.TheVariants as outcomes
use Rattle.form_notes.specs.declared.notes.Question.TheVariants as questions
use Rattle.form_notes.specs.declared.noting.Noting as code_noting
use Rattle.form_notes.proofs.NoteLaws.{have_more, order_more}
use Rattle.form_notes.proofs.OwnLaws.{defines}
use Rattle.form_notes.proofs.noting.Noting.define.Goals as goal

pub returns-in-Ok : goal.returns-in-Ok
returns-in-Ok c = record {
  defined = λ r ms fs x rules ns keyword h is none.
      let names = c.args.symbols.now in
      let old = c.args.self.now in
      let now = c.push.new.self in
      let a = c.push.ensures in
      let note : code_note.Note = record { behind = c.behind-behind.result; question = questions.Definition c.args.definition outcomes.Stands } in
      let m : Noted = record { behind = length r.own; question = Defines fs x rules ns; answer = Ends Stands } in
      record {
        since = record {
          unit = ap (λ (n : code_noting.Noting). n.unit) a.rest ∙ h.since.unit;
          form = ap (λ (n : code_noting.Noting). n.form) a.rest ∙ h.since.form;
          uses = ap (λ (n : code_noting.Noting). n.begun) a.rest ∙ h.since.uses;
        };
        stands = λ kept.
            let p = a.added kept in
            let s = h.stands p.0 in
            let own = subst (λ (own : BTreeSet ℕ). OwnStands names own r) (sym (ap (λ (n : code_noting.Noting). n.own) a.rest)) s.own in
            let at = c.behind-behind.ensures names r s.own in
            let notes = have_more names r old.notes ms note m (at, (fs, x, rules, ns, refl, refl, is)) s.notes in
            let order = order_more names r old.first (length r.own) old.notes now.notes note p.1 at s.order in
            record {
              own = defines names c.told_apart.ensures.idents now.own c.add.new.own r c.args.definition.ident x keyword is.name none c.in-Ok.ensures.has c.in-Ok.ensures.count own;
              notes = (let z = subst (λ (xs : List code_note.Note). HaveNotes names r xs (m ∷ ms)) (sym p.1) notes in record { all = z.all; alone = z.alone });
              order = subst (InOrder now.first now.notes) (add-one (length r.own)) (subst (λ (k : ℕ). InOrder k now.notes (length r.own + 1)) (sym (ap (λ (n : code_noting.Noting). n.first) a.rest)) order);
            };
      };
  start = record { before = ap (λ (n : code_noting.Noting). n.before) c.push.ensures.rest; first = ap (λ (n : code_noting.Noting). n.first) c.push.ensures.rest };
}
