use Rattle.std.proofs.Common.{refl, sym, ap, length, ◌++◌}
use Rattle.scheme_model.specs.Questions.{Defines, Ends}
use Rattle.form_notes.specs.Noted.{defined_as}
use Rattle.form_notes.specs.Standing.{failed_as}
use Rattle.form_notes.specs.declared.notes.Question.TheVariants as questions
use Rattle.form_notes.specs.declared.noting.Noting as code_noting
use Rattle.form_notes.proofs.NoteLaws.{adds}
use Rattle.form_notes.proofs.noting.Noting.fail_definition.Goals as goal

pub returns : goal.returns
returns c = record {
  noted = λ names r ms fs x rules ns h is.
      let o = failed_as c.args.redefines in
      adds names r c.args.self.now c.push.new.self ms (defined_as r fs x rules ns o ++ ms) (record { behind = c.behind-behind.result; question = questions.Definition c.args.definition c.failure-answer.result }) c.push.ensures c.failure-answer.ensures.made h (λ own.
      (record { behind = length r.own; question = Defines fs x rules ns; answer = Ends o }, (c.behind-behind.ensures names r own, (fs, x, rules, ns, refl, ap Ends (sym c.failure-answer.ensures.ends), is)), refl, c.behind-behind.ensures names r own));
  start = record { before = ap (λ (n : code_noting.Noting). n.before) c.push.ensures.rest; first = ap (λ (n : code_noting.Noting). n.first) c.push.ensures.rest };
}
