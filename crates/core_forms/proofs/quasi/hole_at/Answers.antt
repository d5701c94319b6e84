use Rattle.std.proofs.Common.{◌+◌, add-one, refl, sym, ap, ◌∙◌, subst, arith}
use Rattle.scheme_model.specs.Trees.{name, Trees, tree, no_trees, Tail}
use Rattle.scheme_model.specs.Shapes.{one_of}
use Rattle.scheme_model.specs.Matching.{behind}
use Rattle.scheme_model.specs.Quasiquote.{hole_behind}
use Rattle.scheme_model.specs.Ident.{Ident as Identifier}
use Rattle.std.specs.Prelude.{is_some}
use Rattle.syntax_tree.proofs.Looking.{part_there, behind_past, count_stands, no_end, some_end, part_named, named_more}
use Rattle.core_forms.proofs.Lists.{one_not, one_dotted, count_behind}
use Rattle.core_forms.proofs.Holes.{adds_hole}
use Rattle.syntax_tree.specs.Looks.{AllNamed}
use Rattle.core_forms.proofs.quasi.hole_at.Goals as goal

pub returns-then-items-at-clause-read : goal.returns-then-items-at-clause-read
returns-then-items-at-clause-read c = λ i o ts tail stands ends.
    let n = count_stands c.args.work.now c.args.items.now ts stands in
    let m = count_behind c.args.at ts (omega (arith, c.requires.within)) in
    ap (hole_behind (name i o)) (one_not (behind c.args.at ts) tail (λ one. omega arith))

pub returns-in_ok-push-in-None-2-clause-read : goal.returns-in_ok-push-in-None-2-clause-read
returns-in_ok-push-in-None-2-clause-read c = λ i o ts tail stands ends.
    let w = c.args.work.now in
    let at = c.args.at in
    let p = part_there w at c.args.items.now ts (record { number = 0 }) stands (omega arith) in
    let past = behind_past w (at + 1) c.args.items.now ts stands (omega arith) in
    let gone = no_end w c.args.end tail (ap is_some c.in-None.is) ends in
    let here = p.split ∙ ap (tree p.part) (ap (λ j. behind j ts) (sym (add-one at)) ∙ past) in
    let one = ap (λ (x : Trees Identifier). one_of x tail) here ∙ ap (λ (x : Tail Identifier). one_of (tree p.part no_trees) x) gone in
    (_, ap (hole_behind (name i o)) one, adds_hole w c.args.found.now (record { trees = c.push-in-None.new.self; places = c.push.new.self; passed = c.args.found.now.passed + 1 }) _ p.part c.in_ok-push-in-None-2.ensures.items c.in_ok-push-in-None.ensures.items refl p.stands)

pub returns-in-Some-clause-read : goal.returns-in-Some-clause-read
returns-in-Some-clause-read c = λ i o ts tail stands ends.
    let there = some_end c.args.work.now c.args.end tail (ap is_some c.in-Some.is) ends in
    ap (hole_behind (name i o)) (ap (λ (x : Tail Identifier). one_of (behind c.args.at ts) x) there.1 ∙ one_dotted (behind c.args.at ts) there.0)

pub returns-in_ok-push-in-None-2-clause-named : goal.returns-in_ok-push-in-None-2-clause-named
returns-in_ok-push-in-None-2-clause-named c = λ region items holes.
    let w = c.args.work.now in
    let n = part_named w region c.args.at c.args.items.now (record { number = 0 }) items (omega arith) in
    subst (AllNamed w region) (sym c.in_ok-push-in-None-2.ensures.items) (named_more w region c.args.found.now.trees.items _ holes n)
