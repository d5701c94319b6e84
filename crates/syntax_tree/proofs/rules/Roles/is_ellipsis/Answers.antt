use Rattle.std.proofs.Common.{◌∙◌}
use Rattle.syntax_tree.proofs.RoleLaws.{own_is, dots_is}
use Rattle.syntax_tree.proofs.rules.Roles.is_ellipsis.Goals as goal

pub returns-in-Some : goal.returns-in-Some
returns-in-Some c = λ e i own ident spelt.
    own_is c.args.symbols.now c.told_apart.ensures.idents c.args.self.now.ellipsis c.args.id c.in-Some.own e i c.in-Some.is own ident

pub returns-in-None : goal.returns-in-None
returns-in-None c = λ e i own ident spelt. c.same_text.ensures ∙ dots_is c.args.symbols.now c.args.self.now.ellipsis e i c.args.name.now c.in-None.is own spelt
