use Rattle.std.proofs.Common.{[], ◌∷◌, ◌++◌, List, sym, ap, ◌∙◌, subst}
use Rattle.syntax_tree.specs.declared.meaning.Meaning.TheVariants as code
use Rattle.syntax_tree.specs.declared.units.Entry.{Entry}
use Rattle.unit_imports.specs.EntriesMeant.{HaveMeaning}
use Rattle.unit_imports.proofs.MeaningLaws.{mean_both, defined_means, there}
use Rattle.unit_imports.proofs.NameLaws.{named_is, named_not}
use Rattle.unit_imports.proofs.defined.add_name.Goals as goal

pub returns-in_default-clause-exact : goal.returns-in_default-clause-exact
returns-in_default-clause-exact c =
    let at = there c.args.symbols.now.idents c.args.binder.ident c.requires in
    named_not c.args.symbols.now c.args.unit c.args.binder at.0 c.args.names.now.items at.1 (c.in_default.ensures at.0 at.1)

pub returns-clause-means : goal.returns-clause-means
returns-clause-means c = λ means.
    let names = c.args.symbols.now in
    let s = c.in_ok-of.field-0 in
    let os = c.in_ok-own_origin.field-0 in
    subst (HaveMeaning names) (sym c.in_ok-push.ensures.items)
    (mean_both names c.args.names.now.items (record { name = s; meaning = code.Global c.args.unit c.args.binder.ident; origins = os } ∷ []) means
    (defined_means names c.args.unit c.args.binder.ident s os c.args.binder.occ c.requires c.in_ok-own_origin.ensures))

pub returns-clause-exact : goal.returns-clause-exact
returns-clause-exact c =
    let at = there c.args.symbols.now.idents c.args.binder.ident c.requires in
    c.in_ok-push.ensures.items
    ∙ ap (λ (es : List Entry). c.args.names.now.items ++ es)
    (named_is c.args.symbols.now c.args.unit c.args.binder at.0 c.in-Some.name.now c.in_ok-of.field-0 c.in_ok-own_origin.field-0 at.1 (c.in-Some.ensures at.0 at.1) c.in_ok-of.ensures c.in_ok-own_origin.ensures)
