use Rattle.std.proofs.Common.{sym, ap, ◌∙◌, subst, List, arith}
use Rattle.scheme_model.specs.Trees.{Tail}
use Rattle.scheme_model.specs.Shapes.{if_of}
use Rattle.scheme_model.specs.Ident.{Ident as Identifier}
use Rattle.syntax_tree.specs.Looks.{PartsStand}
use Rattle.syntax_tree.specs.declared.trees.nodes.Tree as number
use Rattle.syntax_tree.proofs.Looking.{no_end, some_end, count_stands}
use Rattle.core_forms.proofs.Lists.{if_dotted, if_few, if_many, if_fits}
use Rattle.core_forms.proofs.conditional.if_of.Goals as goal

pub returns-then-is_some-clause-read : goal.returns-then-is_some-clause-read
returns-then-is_some-clause-read c = λ ts tail stands ends.
    let there = some_end c.args.work.now c.args.end tail (sym c.is_some.ensures ∙ c.if-is_some.true) ends in
    ap (λ (x : Tail Identifier). if_of ts x) there.1 ∙ if_dotted ts there.0

pub returns-then-items-lt2-clause-read : goal.returns-then-items-lt2-clause-read
returns-then-items-lt2-clause-read c = λ ts tail stands ends.
    let gone = no_end c.args.work.now c.args.end tail (sym c.is_some.ensures ∙ c.if-is_some.false) ends in
    let many = count_stands c.args.work.now c.args.items.now ts stands in
    ap (λ (x : Tail Identifier). if_of ts x) gone ∙ if_few ts (omega arith)

pub returns-then-items-gt3-clause-read : goal.returns-then-items-gt3-clause-read
returns-then-items-gt3-clause-read c = λ ts tail stands ends.
    let gone = no_end c.args.work.now c.args.end tail (sym c.is_some.ensures ∙ c.if-is_some.false) ends in
    let many = count_stands c.args.work.now c.args.items.now ts stands in
    ap (λ (x : Tail Identifier). if_of ts x) gone ∙ if_many ts (omega arith)

pub returns-clause-read : goal.returns-clause-read
returns-clause-read c = λ ts tail stands ends.
    let gone = no_end c.args.work.now c.args.end tail (sym c.is_some.ensures ∙ c.if-is_some.false) ends in
    let many = count_stands c.args.work.now c.args.items.now ts stands in
    (ts, ap (λ (x : Tail Identifier). if_of ts x) gone ∙ if_fits ts (omega arith) (omega arith), subst (λ (ns : List number.Tree). PartsStand c.args.work.now ns ts) (sym c.in_ok-from_slice.ensures.items) stands)
