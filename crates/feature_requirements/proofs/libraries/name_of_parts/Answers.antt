use Rattle.std.proofs.Common.{sym, ap, ◌∙◌}
use Rattle.scheme_model.specs.Trees.{Trees, Tail, tree}
use Rattle.scheme_model.specs.Requirements.{parts_of}
use Rattle.scheme_model.specs.Ident.{Ident as Identifier, symbol_of}
use Rattle.syntax_tree.proofs.Looking.{no_end, some_end}
use Rattle.core_forms.proofs.Lists.{row_empty, row_parts, nothing_in}
use Rattle.feature_requirements.specs.Judged.{name_in_list}
use Rattle.feature_requirements.proofs.JudgeLaws.{name_same, dotted_name}
use Rattle.feature_requirements.proofs.libraries.name_of_parts.Goals as goal

pub returns-then-is_some : goal.returns-then-is_some
returns-then-is_some c = λ ts tail h g.
    let there = some_end c.args.work.now c.args.end tail (sym c.is_some.ensures ∙ c.if-is_some.true) g in
    ap (λ (x : Tail Identifier). name_in_list ts x) there.1 ∙ dotted_name ts there.0

pub name_of_row-requires-clause-first : goal.name_of_row-requires-clause-first
name_of_row-requires-clause-first c =
    let p = row_parts c.args.work.now c.args.parts.now c.in-Some.first.now c.in-Some.rest.now c.requires.0 c.in-Some.ensures.cases.0 c.requires.1 in (p.0, p.3)

pub name_of_row-requires-clause-rest : goal.name_of_row-requires-clause-rest
name_of_row-requires-clause-rest c =
    let p = row_parts c.args.work.now c.args.parts.now c.in-Some.first.now c.in-Some.rest.now c.requires.0 c.in-Some.ensures.cases.0 c.requires.1 in (p.1, p.4)

pub returns-in-None : goal.returns-in-None
returns-in-None c = λ ts tail h g.
    ap (λ (x : Trees Identifier). name_in_list x tail) (row_empty c.args.work.now c.args.parts.now ts (nothing_in c.args.parts.now c.in-None.ensures.cases) h)

pub returns-in-Some : goal.returns-in-Some
returns-in-Some c = λ ts tail h g.
    let w = c.args.work.now in
    let p = row_parts w c.args.parts.now c.in-Some.first.now c.in-Some.rest.now ts c.in-Some.ensures.cases.0 h in
    let gone = no_end w c.args.end tail (sym c.is_some.ensures ∙ c.if-is_some.false) g in
    name_same c.name_of_row.result (parts_of symbol_of (tree p.0 p.1)) (name_in_list ts tail)
    (ap (λ (x : Trees Identifier). name_in_list x tail) p.2 ∙ ap (λ (x : Tail Identifier). name_in_list (tree p.0 p.1) x) gone) (c.name_of_row.ensures p.0 p.1 p.3 p.4)
