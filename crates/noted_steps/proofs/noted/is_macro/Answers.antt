use Rattle.std.proofs.Common.{ℕ, sym, ap, ◌∙◌, subst}
use Rattle.scheme_model.specs.Order.{is_some}
use Rattle.scheme_model.specs.ScopedExpansion.{macro_at}
use Rattle.syntax_tree.specs.Meant.{IsMeaning}
use Rattle.unit_scopes.specs.Macros.{macro_in}
use Rattle.noted_steps.proofs.NoteLaws.{macro_told, copied_some}
use Rattle.noted_steps.proofs.noted.is_macro.Goals as goal

pub returns : goal.returns
returns c = λ work ls s m e is.
    let u = c.args.units.now in
    c.is_some.ensures
    ∙ (copied_some c.meaning.result
    ∙ (ap is_some c.meaning.ensures
    ∙ macro_told work ls (macro_in u.macros u.form.number c.args.meaning) (macro_at s.macros m)
    (e.macros.there u.form.number c.args.meaning m (subst (λ (n : ℕ). IsMeaning work.symbols s.unit n c.args.meaning m) (sym e.form.number) is))))
