use Rattle.std.proofs.Common.{refl, inl, ap, sym, ◌∙◌, ◌++◌}
use Rattle.scheme_model.specs.Questions.{UsesRules, Expands}
use Rattle.form_notes.specs.Noted.{rules_used}
use Rattle.form_notes.specs.declared.notes.Question.TheVariants as questions
use Rattle.form_notes.specs.declared.noting.Noting as code_noting
use Rattle.form_notes.proofs.NoteLaws.{adds, some_rules}
use Rattle.form_notes.proofs.noting.Noting.use_rules.Goals as goal

pub returns-then-not-is_own_meaning : goal.returns-then-not-is_own_meaning
returns-then-not-is_own_meaning c = record {
  noted = λ names r ms m h means.
      let t = r.editions c.args.edition in
      adds names r c.args.self.now c.push.new.self ms (rules_used r m t ++ ms) (record { behind = 0; question = questions.Rules c.args.meaning c.args.edition }) c.push.ensures refl h (λ o. (
        record { behind = 0; question = UsesRules m; answer = Expands t },
        (refl, (m, refl, refl, means)),
        some_rules r ms m t (sym c.if-not-is_own_meaning.true ∙ c.is_own_meaning.ensures names r m h.since o means),
        inl refl,
      ));
  start = record { before = ap (λ (n : code_noting.Noting). n.before) c.push.ensures.rest; first = ap (λ (n : code_noting.Noting). n.first) c.push.ensures.rest };
}
