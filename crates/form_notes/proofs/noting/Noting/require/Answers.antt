use Rattle.std.proofs.Common.{refl, inl, ap, ◌++◌}
use Rattle.scheme_model.specs.Questions.{Requires, Says}
use Rattle.form_notes.specs.Noted.{required}
use Rattle.form_notes.specs.declared.notes.Question.TheVariants as questions
use Rattle.form_notes.specs.declared.noting.Noting as code_noting
use Rattle.form_notes.proofs.NoteLaws.{adds}
use Rattle.form_notes.proofs.noting.Noting.require.Goals as goal

pub returns : goal.returns
returns c = record {
  noted = λ names r ms l h is.
      let b = c.args.answer in
      adds names r c.args.self.now c.push.new.self ms (required l b ++ ms) (record { behind = 0; question = questions.Library c.args.name b }) c.push.ensures refl h (λ o.
      (record { behind = 0; question = Requires l; answer = Says b }, (refl, (l, refl, refl, is)), refl, inl refl));
  start = record { before = ap (λ (n : code_noting.Noting). n.before) c.push.ensures.rest; first = ap (λ (n : code_noting.Noting). n.first) c.push.ensures.rest };
}
