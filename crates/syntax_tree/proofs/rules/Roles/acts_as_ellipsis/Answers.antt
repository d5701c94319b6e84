use Rattle.std.proofs.Common.{◌∙◌, sym}
use Rattle.syntax_tree.proofs.RoleLaws.{strip_below, name_is, no_ellipsis}
use Rattle.syntax_tree.proofs.rules.Roles.acts_as_ellipsis.Goals as goal

pub name-name-requires : goal.name-name-requires
name-name-requires c = strip_below c.args.symbols.now c.args.id c.strip.result c.requires c.strip.ensures

pub returns : goal.returns
returns c = λ r i tells ident.
    no_ellipsis r i (sym (c.is_ellipsis.ensures r.ellipsis i tells.ellipsis ident (name_is c.args.symbols.now c.args.id c.strip.result i c.name-name.result.now ident c.strip.ensures c.name-name.ensures)) ∙ c.if-is_ellipsis.false)
