use Rattle.std.proofs.Common.{sym, ap, ◌∙◌, subst, List}
use Rattle.scheme_model.specs.Trees.{Trees, Tail, tree}
use Rattle.scheme_model.specs.Ident.{Ident as Identifier}
use Rattle.syntax_tree.specs.Looks.{PartsStand, AllNamed}
use Rattle.syntax_tree.specs.declared.trees.nodes.Tree as number
use Rattle.syntax_tree.proofs.Looking.{no_end, some_end}
use Rattle.core_forms.specs.Steps.{choice_with}
use Rattle.core_forms.proofs.conditional.choice_with.Goals as goal

pub returns-then-is_some-clause-read : goal.returns-then-is_some-clause-read
returns-then-is_some-clause-read c = λ ts tail stands ends.
    let l = c.in-Parts.ensures.read ts stands in
    let there = some_end c.args.work.now c.args.end tail (sym c.is_some.ensures ∙ c.if-is_some.true) ends in
    ap (λ (x : Trees Identifier). choice_with x tail) l.2 ∙ ap (λ (x : Tail Identifier). choice_with (tree l.0 l.1) x) there.1

pub returns-in_ok-forms-in-Parts-clause-read : goal.returns-in_ok-forms-in-Parts-clause-read
returns-in_ok-forms-in-Parts-clause-read c = λ ts tail stands ends.
    let w = c.args.work.now in
    let l = c.in-Parts.ensures.read ts stands in
    let gone = no_end w c.args.end tail (sym c.is_some.ensures ∙ c.if-is_some.false) ends in
    ((l.0, l.1), ap (λ (x : Trees Identifier). choice_with x tail) l.2 ∙ ap (λ (x : Tail Identifier). choice_with (tree l.0 l.1) x) gone, (l.3, subst (λ (ns : List number.Tree). PartsStand w ns l.1) (sym c.in_ok-forms-in-Parts.ensures.items) l.4))

pub returns-in_ok-forms-in-Parts-clause-named : goal.returns-in_ok-forms-in-Parts-clause-named
returns-in_ok-forms-in-Parts-clause-named c = λ region named.
    let r = c.in-Parts.ensures.named region named in
    (r.0, subst (AllNamed c.args.work.now region) (sym c.in_ok-forms-in-Parts.ensures.items) r.1)
