use Rattle.std.proofs.Common.{◌≡◌, refl, sym, ap, ◌∙◌, subst, cond, length, ◌++◌}
use Rattle.std.specs.Prelude.{◌||◌}
use Rattle.scheme_model.specs.Meaning.{same_meaning}
use Rattle.scheme_model.specs.Questions.{Compares, Says}
use Rattle.syntax_tree.specs.Macros.{IsIdent}
use Rattle.question_laws.specs.Noted.{before_uses, defines_within}
use Rattle.form_notes.specs.Noted.{began, compared}
use Rattle.form_notes.specs.Standing.{IsQuestion, IsAsked, stood}
use Rattle.form_notes.specs.declared.notes.Question as code_question
use Rattle.form_notes.specs.declared.noting.Noting as code_noting
use Rattle.form_notes.proofs.NoteLaws.{adds, part_at, asked_as, one_note, some_comparison}
use Rattle.form_notes.proofs.noting.Noting.compare.Goals as goal

pub returns : goal.returns
returns c = record {
  noted = λ r ms l i m n h is at first second holds.
      let names = c.args.symbols.now in
      let old = c.args.self.now in
      let held = same_meaning m n in
      adds names r old c.push.new.self ms (compared r l i m n ++ ms) (record { behind = c.behind-behind.result; question = c.comparison.result }) c.push.ensures (ap stood c.comparison.ensures) h (λ o.
      let part = defines_within r.own l || defines_within r.own i in
      let d : c.defines_either-part.result ≡ part = c.defines_either-part.ensures r l i h.since o is at in
      let x = asked_as r part l in
      let y = asked_as r part i in (
        one_note r part (Compares x y) (Says held),
        (
          c.behind-behind.ensures names r o ∙ ap (λ b. cond b (length r.own) 0) d,
          subst (λ (q : code_question.Question). IsQuestion names r q (Compares x y) (Says held)) (sym c.comparison.ensures) (
            x,
            y,
            refl,
            ap Says (sym holds),
            subst (λ b. IsIdent names c.asked_as-left.result (cond b l (before_uses (began r) l))) d (c.asked_as-left.ensures r l h.since is),
            subst (λ b. IsIdent names c.asked_as-right.result (cond b i (before_uses (began r) i))) d (c.asked_as-right.ensures r i h.since at),
          ),
        ),
        some_comparison r ms l i m n (sym c.if-is_local.false ∙ c.is_local.ensures names r.unit r.form m first) (sym c.if-is_local-2.false ∙ c.is_local-2.ensures names r.unit r.form n second)
            (sym c.if-compares_alone.false ∙ c.compares_alone.ensures r l i h.since o is at),
        subst (λ (q : code_question.Question). IsAsked q (length r.own) c.behind-behind.result) (sym c.comparison.ensures) (part_at (c.defines_either-part.result) c.behind-behind.result (length r.own) (c.behind-behind.ensures names r o)),
      ));
  start = record { before = ap (λ (n : code_noting.Noting). n.before) c.push.ensures.rest; first = ap (λ (n : code_noting.Noting). n.first) c.push.ensures.rest };
}
