use Rattle.std.proofs.Common.{ℕ, List, ◌++◌, sym, ap, ◌∙◌, subst}
use Rattle.syntax_tree.specs.Meant.{IsMeaning}
use Rattle.form_notes.specs.Noted.{Noted, rules_used}
use Rattle.form_notes.specs.Standing.{NotingStands}
use Rattle.scheme_model.specs.Questions.{bare_macro}
use Rattle.scheme_model.specs.RulesShape.{option_map}
use Rattle.scheme_model.specs.ScopedExpansion.{macro_at}
use Rattle.noted_steps.proofs.EditionLaws.{use_told}
use Rattle.noted_steps.proofs.NoteLaws.{notes_stand}
use Rattle.noted_steps.proofs.noted.note_use.Goals as goal

pub returns-clause-noted : goal.returns-clause-noted
returns-clause-noted c = λ known work ls s m e is.
    let names = work.symbols in
    let u = c.args.units.now in
    let x = c.args.meaning in
    let rules = option_map bare_macro (macro_at s.macros m) in
    let here = subst (λ (n : ℕ). IsMeaning names s.unit n x m) (sym e.form.number) is in
    notes_stand work u ls s c.use_rules.new.self (rules_used s.since m rules ++ s.noted) c.use_rules.ensures.start
    (λ exact.
    subst (λ (ns : List Noted). NotingStands names c.use_rules.new.self s.since (ns ++ s.noted)) (use_told s.since m (s.since.editions c.edition-edition.result) rules (λ other. ap s.since.editions c.edition-edition.ensures ∙ (e.editions exact).tells u.form.number x m here other))
    (c.use_rules.ensures.noted names s.since s.noted m (e.notes exact)
    (subst (λ n. IsMeaning names n s.since.form x m) (sym e.since_unit) (subst (λ n. IsMeaning names s.unit n x m) (sym e.since_form) is)))) e
