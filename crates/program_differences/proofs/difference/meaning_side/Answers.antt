use Rattle.std.proofs.Common.{sym, ap, ◌∙◌, subst}
use Rattle.std.specs.Prelude.{None}
use Rattle.scheme_model.specs.ProgramArrows.{binder_of}
use Rattle.rename_model.specs.Difference as model
use Rattle.syntax_tree.specs.Meant.{IsMeaning}
use Rattle.syntax_tree.specs.declared.meaning.Meaning.{Meaning}
use Rattle.program_differences.proofs.ToldLaws.{local_told, global_told, standard_told, free_told}
use Rattle.program_differences.proofs.difference.meaning_side.Goals as goal

pub returns-in-Local : goal.returns-in-Local
returns-in-Local c = λ leaves keywords names table m sees is.
    let at = subst (λ (x : Meaning). IsMeaning c.args.work.now.symbols c.args.at.unit c.args.at.form x m) c.in-Local.is is in
    c.binder_side.ensures ∙ ap model.binder_side (c.binder_of.ensures c.args.work.now leaves keywords names table m sees is)
    ∙ sym (local_told c.args.work.now.symbols c.args.at.unit c.args.at.form (binder_of leaves table) _ m at)

pub returns-in-Global : goal.returns-in-Global
returns-in-Global c = λ leaves keywords names table m sees is.
    let at = subst (λ (x : Meaning). IsMeaning c.args.work.now.symbols c.args.at.unit c.args.at.form x m) c.in-Global.is is in
    c.binder_side-in-Global.ensures ∙ ap model.binder_side (c.binder_of-in-Global.ensures c.args.work.now leaves keywords names table m sees is)
    ∙ sym (global_told c.args.work.now.symbols c.args.at.unit c.args.at.form (binder_of leaves table) _ _ m at)

pub text_of-requires : goal.text_of-requires
text_of-requires c =
    let at = subst (λ (x : Meaning). IsMeaning c.args.work.now.symbols c.args.at.unit c.args.at.form x c.requires.0) c.in-Standard.is c.requires.1 in
    let g = standard_told c.args.work.now.symbols c.args.at.unit c.args.at.form (λ x. None) c.in-Standard.name c.requires.0 at in (g.0, g.1)

pub returns-in_ok-text_of-in-Standard : goal.returns-in_ok-text_of-in-Standard
returns-in_ok-text_of-in-Standard c = λ leaves keywords names table m sees is.
    let at = subst (λ (x : Meaning). IsMeaning c.args.work.now.symbols c.args.at.unit c.args.at.form x m) c.in-Standard.is is in
    let g = standard_told c.args.work.now.symbols c.args.at.unit c.args.at.form (binder_of leaves table) c.in-Standard.name m at in
    ap model.OfStandard (c.in_ok-text_of-in-Standard.ensures g.0 g.1) ∙ sym g.2

pub text_of-requires-in-Free : goal.text_of-requires-in-Free
text_of-requires-in-Free c =
    let at = subst (λ (x : Meaning). IsMeaning c.args.work.now.symbols c.args.at.unit c.args.at.form x c.requires.0) c.in-Free.is c.requires.1 in
    let g = free_told c.args.work.now.symbols c.args.at.unit c.args.at.form (λ x. None) c.in-Free.name c.requires.0 at in (g.0, g.1)

pub returns-in_ok-text_of-in-Free : goal.returns-in_ok-text_of-in-Free
returns-in_ok-text_of-in-Free c = λ leaves keywords names table m sees is.
    let at = subst (λ (x : Meaning). IsMeaning c.args.work.now.symbols c.args.at.unit c.args.at.form x m) c.in-Free.is is in
    let g = free_told c.args.work.now.symbols c.args.at.unit c.args.at.form (binder_of leaves table) c.in-Free.name m at in
    ap model.OfUnbound (c.in_ok-text_of-in-Free.ensures g.0 g.1) ∙ sym g.2
