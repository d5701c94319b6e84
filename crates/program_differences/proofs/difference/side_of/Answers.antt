use Rattle.std.proofs.Common.{sym, ap, ◌∙◌, subst}
use Rattle.scheme_model.specs.ProgramArrows.{binder_of}
use Rattle.rename_model.specs.Difference as model
use Rattle.alpha_equal.specs.declared.points.Shown.{Shown}
use Rattle.alpha_equal.specs.Points.{IsShown}
use Rattle.program_differences.proofs.difference.side_of.Goals as goal

pub returns-in-Nothing : goal.returns-in-Nothing
returns-in-Nothing c = λ leaves keywords names table t sees is.
    let at = subst (λ (x : Shown). IsShown c.args.work.now.symbols c.args.at.unit c.args.at.form x t) c.in-Nothing.is is in sym (ap (model.side_of (binder_of leaves table)) at)

pub text_of-requires : goal.text_of-requires
text_of-requires c =
    let at = subst (λ (x : Shown). IsShown c.args.work.now.symbols c.args.at.unit c.args.at.form x c.requires.0) c.in-Symbol.is c.requires.1 in (at.0, at.1)

pub returns-in_ok-text_of-in-Symbol : goal.returns-in_ok-text_of-in-Symbol
returns-in_ok-text_of-in-Symbol c = λ leaves keywords names table t sees is.
    let at = subst (λ (x : Shown). IsShown c.args.work.now.symbols c.args.at.unit c.args.at.form x t) c.in-Symbol.is is in
    ap model.OfSymbol (c.in_ok-text_of-in-Symbol.ensures at.0 at.1) ∙ sym (ap (model.side_of (binder_of leaves table)) at.2)

pub returns-in_ok-of-in-Text : goal.returns-in_ok-of-in-Text
returns-in_ok-of-in-Text c = λ leaves keywords names table t sees is.
    let at = subst (λ (x : Shown). IsShown c.args.work.now.symbols c.args.at.unit c.args.at.form x t) c.in-Text.is is in
    ap model.OfSymbol c.in_ok-of-in-Text.ensures ∙ sym (ap (model.side_of (binder_of leaves table)) at)

pub meaning_side-requires : goal.meaning_side-requires
meaning_side-requires c =
    let at = subst (λ (x : Shown). IsShown c.args.work.now.symbols c.args.at.unit c.args.at.form x c.requires.0) c.in-Meaning.is c.requires.1 in (at.0, at.1)

pub returns-in_ok-meaning_side-in-Meaning : goal.returns-in_ok-meaning_side-in-Meaning
returns-in_ok-meaning_side-in-Meaning c = λ leaves keywords names table t sees is.
    let at = subst (λ (x : Shown). IsShown c.args.work.now.symbols c.args.at.unit c.args.at.form x t) c.in-Meaning.is is in
    c.in_ok-meaning_side-in-Meaning.ensures leaves keywords names table at.0 sees at.1 ∙ sym (ap (model.side_of (binder_of leaves table)) at.2)

pub returns-in-Place : goal.returns-in-Place
returns-in-Place c = λ leaves keywords names table t sees is.
    let at = subst (λ (x : Shown). IsShown c.args.work.now.symbols c.args.at.unit c.args.at.form x t) c.in-Place.is is in
    c.binder_side.ensures ∙ sym (ap (model.side_of (binder_of leaves table)) at)
