use mathlib.Core.Bool.{beq}
use Rattle.std.proofs.Common.{◌≡◌, IsTrue, sym, ◌∙◌}
use Rattle.scheme_model.specs.Order.{is_some}
use Rattle.scheme_model.specs.OwnAnswers.{root_means}
use Rattle.scheme_model.specs.ScopedExpansion.{macro_at}
use Rattle.unit_scopes.specs.Macros.{macro_in}
use Rattle.note_answers.proofs.RootLaws.{root_lasts, any_form, meant_same, macro_there, means_arm, beq_same, equal_same, true_false}
use Rattle.note_answers.proofs.answers.has_meaning.Goals as goal

pub returns-then-is_same : goal.returns-then-is_same
returns-then-is_same c = λ v r i m can is tells.
    let s = v.state in
    let names = c.args.work.now.symbols in
    let now = c.meaning-now.result in
    let l = root_means s i in
    let form = c.args.units.now.form.number in
    let lasts = root_lasts s can.places can.entries i in
    let here = c.meaning-now.ensures v r i can is in
    let equal = (equal_same now c.args.answer).0 (sym c.is_same.ensures ∙ c.if-is_same.true) in
    let same = meant_same names c.told_apart.ensures.idents c.told_apart.ensures.symbols s.unit s.form r.unit r.form now c.args.answer l m lasts here tells in
    let there : c.is_macro.result ≡ is_some (macro_at s.macros l) =
    c.is_macro.ensures ∙ macro_there c.args.work.now can.layout (macro_in c.args.units.now.macros form now) (macro_at s.macros l) (can.rests.macros.there form now l (any_form names s.unit s.form s.unit form now l lasts here)) in
    means_arm (IsTrue (beq c.is_macro.result c.args.keyword)) l m now c.args.answer (is_some (macro_at s.macros l)) c.args.keyword
    (λ p. (equal, sym there ∙ (beq_same c.is_macro.result c.args.keyword).0 p), λ h. (beq_same c.is_macro.result c.args.keyword).1 (there ∙ h.1)) same

pub returns-else-is_same : goal.returns-else-is_same
returns-else-is_same c = λ v r i m can is tells.
    let s = v.state in
    let names = c.args.work.now.symbols in
    let now = c.meaning-now.result in
    let l = root_means s i in
    let lasts = root_lasts s can.places can.entries i in
    let here = c.meaning-now.ensures v r i can is in
    let same = meant_same names c.told_apart.ensures.idents c.told_apart.ensures.symbols s.unit s.form r.unit r.form now c.args.answer l m lasts here tells in
    means_arm (IsTrue c.is_same.result) l m now c.args.answer (is_some (macro_at s.macros l)) c.args.keyword
    (λ p. absurd (true_false (sym p ∙ c.if-is_same.false)), λ h. absurd (true_false (sym ((equal_same now c.args.answer).1 h.0) ∙ (sym c.is_same.ensures ∙ c.if-is_same.false)))) same
