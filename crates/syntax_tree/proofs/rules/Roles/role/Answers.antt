use Rattle.std.proofs.Common.{List, ℕ, ◌∙◌, sym, ap}
use Rattle.std.specs.Prelude.{codes}
use Rattle.std.specs.Str.{bytes_eq}
use Rattle.syntax_tree.proofs.RoleLaws.{among_is, strip_below, name_is, role_literal, role_ellipsis, role_any, role_variable}
use Rattle.syntax_tree.proofs.rules.Roles.role.Goals as goal

pub returns-then-contains : goal.returns-then-contains
returns-then-contains c = λ r i tells ident.
    role_literal r i (among_is c.args.symbols.now c.told_apart.ensures.idents c.args.self.now r c.args.id i c.contains.result _ tells ident c.contains.ensures c.if-contains.true)

pub returns-then-is_ellipsis : goal.returns-then-is_ellipsis
returns-then-is_ellipsis c = λ r i tells ident.
    role_ellipsis r i (among_is c.args.symbols.now c.told_apart.ensures.idents c.args.self.now r c.args.id i c.contains.result _ tells ident c.contains.ensures c.if-contains.false)
    (sym (c.is_ellipsis.ensures r.ellipsis i tells.ellipsis ident (name_is c.args.symbols.now c.args.id c.strip.result i c.name-name.result.now ident c.strip.ensures c.name-name.ensures)) ∙ c.if-is_ellipsis.true)

pub name-name-requires : goal.name-name-requires
name-name-requires c = strip_below c.args.symbols.now c.args.id c.strip.result c.requires c.strip.ensures

pub returns-then-same_text : goal.returns-then-same_text
returns-then-same_text c = λ r i tells ident.
    let s = name_is c.args.symbols.now c.args.id c.strip.result i c.name-name.result.now ident c.strip.ensures c.name-name.ensures in
    role_any r i (among_is c.args.symbols.now c.told_apart.ensures.idents c.args.self.now r c.args.id i c.contains.result _ tells ident c.contains.ensures c.if-contains.false)
    (sym (c.is_ellipsis.ensures r.ellipsis i tells.ellipsis ident (name_is c.args.symbols.now c.args.id c.strip.result i c.name-name.result.now ident c.strip.ensures c.name-name.ensures)) ∙ c.if-is_ellipsis.false) (ap (λ (x : List ℕ). bytes_eq x (codes "_")) (sym s) ∙ sym c.same_text.ensures ∙ c.if-same_text.true)

pub returns : goal.returns
returns c = λ r i tells ident.
    let s = name_is c.args.symbols.now c.args.id c.strip.result i c.name-name.result.now ident c.strip.ensures c.name-name.ensures in
    role_variable r i (among_is c.args.symbols.now c.told_apart.ensures.idents c.args.self.now r c.args.id i c.contains.result _ tells ident c.contains.ensures c.if-contains.false)
    (sym (c.is_ellipsis.ensures r.ellipsis i tells.ellipsis ident (name_is c.args.symbols.now c.args.id c.strip.result i c.name-name.result.now ident c.strip.ensures c.name-name.ensures)) ∙ c.if-is_ellipsis.false) (ap (λ (x : List ℕ). bytes_eq x (codes "_")) (sym s) ∙ sym c.same_text.ensures ∙ c.if-same_text.false)
