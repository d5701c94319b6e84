use Rattle.std.proofs.Common.{◌≡◌, refl, sym, ap, ◌∙◌, subst, cond, length, ◌++◌}
use Rattle.scheme_model.specs.Questions.{LooksUp, Means}
use Rattle.syntax_tree.specs.Macros.{IsIdent}
use Rattle.question_laws.specs.Noted.{before_uses, defines_within}
use Rattle.form_notes.specs.Noted.{began, looked_up}
use Rattle.form_notes.specs.Standing.{IsQuestion, IsAsked, stood}
use Rattle.form_notes.specs.declared.notes.Question as code_question
use Rattle.form_notes.specs.declared.noting.Noting as code_noting
use Rattle.form_notes.proofs.NoteLaws.{adds, part_at, asked_as, one_note, some_lookup}
use Rattle.form_notes.proofs.noting.Noting.look_up.Goals as goal

pub returns : goal.returns
returns c = record {
  noted = λ r ms i m h is means.
      let names = c.args.symbols.now in
      let k = c.args.keyword in
      let old = c.args.self.now in
      adds names r old c.push.new.self ms (looked_up r i m k ++ ms) (record { behind = c.behind-behind.result; question = c.lookup.result }) c.push.ensures (ap stood c.lookup.ensures) h (λ o.
      let part = defines_within r.own i in
      let d : c.defines_within-part.result ≡ part = c.defines_within-part.ensures r i h.since o is in
      let l = asked_as r part i in (
        one_note r part (LooksUp l) (Means m k),
        (
          c.behind-behind.ensures names r o ∙ ap (λ b. cond b (length r.own) 0) d,
          subst (λ (q : code_question.Question). IsQuestion names r q (LooksUp l) (Means m k)) (sym c.lookup.ensures)
              (l, m, refl, refl, subst (λ b. IsIdent names c.asked_as-asked.result (cond b i (before_uses (began r) i))) d (c.asked_as-asked.ensures r i h.since is), means),
        ),
        some_lookup r ms i m k (sym c.if-is_local.false ∙ c.is_local.ensures names r.unit r.form m means) (sym c.if-answers_alone.false ∙ c.answers_alone.ensures r i h.since o is),
        subst (λ (q : code_question.Question). IsAsked q (length r.own) c.behind-behind.result) (sym c.lookup.ensures) (part_at (c.defines_within-part.result) c.behind-behind.result (length r.own) (c.behind-behind.ensures names r o)),
      ));
  start = record { before = ap (λ (n : code_noting.Noting). n.before) c.push.ensures.rest; first = ap (λ (n : code_noting.Noting). n.first) c.push.ensures.rest };
}
