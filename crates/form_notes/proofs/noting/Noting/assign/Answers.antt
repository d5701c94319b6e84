use Rattle.std.proofs.Common.{refl, inl, sym, ap, ◌∙◌, ◌++◌}
use Rattle.scheme_model.specs.Questions.{IsAssigned, Says}
use Rattle.question_laws.specs.Noted.{is_defined_in}
use Rattle.form_notes.specs.Noted.{assigned_as}
use Rattle.form_notes.specs.declared.notes.Question.TheVariants as questions
use Rattle.form_notes.specs.declared.noting.Noting as code_noting
use Rattle.form_notes.proofs.NoteLaws.{adds, some_assigned}
use Rattle.form_notes.proofs.noting.Noting.assign.Goals as goal

pub returns-then-not-is_own : goal.returns-then-not-is_own
returns-then-not-is_own c = record {
  noted = λ names r ms i h is.
      let b = c.args.answer in
      adds names r c.args.self.now c.push.new.self ms (assigned_as r i b ++ ms) (record { behind = 0; question = questions.Assigned c.args.ident b }) c.push.ensures refl h (λ o. (
        record { behind = 0; question = IsAssigned i; answer = Says b },
        (refl, (i, refl, refl, is)),
        some_assigned r ms i b (sym c.if-not-is_own.true ∙ (c.is_own.ensures names r i h.since o is ∙ ap (λ u. is_defined_in r.own u i) h.since.unit)),
        inl refl,
      ));
  start = record { before = ap (λ (n : code_noting.Noting). n.before) c.push.ensures.rest; first = ap (λ (n : code_noting.Noting). n.first) c.push.ensures.rest };
}
