use Rattle.std.proofs.Common.{rules, arith, ◌-◌, sym, ap, ◌∙◌}
use Rattle.std.specs.Prelude.{◌||◌}
use Rattle.scheme_model.specs.Trees.{Tree, Tail}
use Rattle.scheme_model.specs.Building.{stands_in, stands_among, stands_behind}
use Rattle.scheme_model.specs.Ident.{Ident as Identifier, same_ident}
use Rattle.syntax_tree.proofs.Looking.{end_within, within_positive, part_there, part_within, split_one, behind_past}
use Rattle.rules_build.proofs.NameLaws.{or_none}
use Rattle.rules_build.proofs.Tails.{end_proper, end_dotted, tail_within}
use Rattle.form_parts.specs.Marked.{mark_here}
use Rattle.form_parts.proofs.QuasiMarks.{adds_both, adds_as, up_more, up_all}
use Rattle.unit_scopes.proofs.scope.UnitScope.+marks.Goals as goal

pub add_marks-add_marks-requires : goal.add_marks-add_marks-requires
add_marks-add_marks-requires t c =
    let w = c.args.work.now in
    let p = c.requires.within in
    let q = c.in-List.ensures.look p.0 p.1 in
    let deep = within_positive w c.args.tree c.args.left p in
    (first_of (omega arith, search rules, grind arith), (c.requires.look, tail_within w c.in-List.end c.in-Some.tail (c.args.left - 1) c.in-Some.is (end_within w c.args.left p.0 c.in-List.end q.0 q.1 q.2 p.2 q.3 q.5)))

pub add_all_marks-add_marks-requires : goal.add_all_marks-add_marks-requires
add_all_marks-add_marks-requires t c =
    (first_of (omega arith, search rules, grind arith), (c.requires.look, part_within c.args.work.now c.args.items.now c.args.left c.loop-item.item-index _ c.requires.within c.loop-item-test.true))

pub add_marks-returns-in-None : goal.add_marks-returns-in-None
add_marks-returns-in-None t c = λ ls s fs u stands at h.
    let w = c.args.work.now in
    let q = c.in-List.ensures.look u h in
    let e = end_proper w c.in-List.end q.1 c.in-None.is q.5 in
    adds_as w.symbols (mark_here s fs) c.args.marks.now c.add_all_marks-in-List.new.marks (λ i. stands_among same_ident i q.0) (λ i. stands_in same_ident i u)
    (λ i. or_none (stands_among same_ident i q.0) ∙ ap (λ (x : Tail Identifier). stands_among same_ident i q.0 || stands_behind same_ident i x) (sym e) ∙ ap (λ (x : Tree Identifier). stands_in same_ident i x) (sym q.3))
    (c.in_ok-add_all_marks-in-List.ensures ls s fs q.0 stands at q.4)

pub add_marks-returns-in_ok-add_marks-in-Some : goal.add_marks-returns-in_ok-add_marks-in-Some
add_marks-returns-in_ok-add_marks-in-Some t c = λ ls s fs u stands at h.
    let w = c.args.work.now in
    let q = c.in-List.ensures.look u h in
    let e = end_dotted w c.in-List.end q.1 c.in-Some.tail c.in-Some.is q.5 in
    adds_as w.symbols (mark_here s fs) c.args.marks.now c.add_marks.new.marks (λ i. stands_among same_ident i q.0 || stands_in same_ident i e.0) (λ i. stands_in same_ident i u)
    (λ i. ap (λ (x : Tail Identifier). stands_among same_ident i q.0 || stands_behind same_ident i x) (sym e.1) ∙ ap (λ (x : Tree Identifier). stands_in same_ident i x) (sym q.3))
    (adds_both w.symbols (mark_here s fs) c.args.marks.now c.add_all_marks-in-List.new.marks c.add_marks.new.marks (λ i. stands_among same_ident i q.0) (λ i. stands_in same_ident i e.0)
    (c.in_ok-add_all_marks-in-List.ensures ls s fs q.0 stands at q.4) (c.in_ok-add_marks-in-Some.ensures ls s fs e.0 stands at e.3))

pub add_all_marks-loop-item-preserved : goal.add_all_marks-loop-item-preserved
add_all_marks-loop-item-preserved t c = λ ls s fs ts stands at h.
    let w = c.args.work.now in
    let k = c.loop-item.item-index in
    let p = part_there w k c.args.items.now ts (record { number = 0 }) h c.loop-item-test.true in
    up_more w.symbols (mark_here s fs) c.args.marks.now ts c.loop-item.marks c.add_marks.new.marks k p.part (split_one w k ts _ p) (c.loop-item.invariant ls s fs ts stands at h) (c.in_ok-add_marks.ensures ls s fs p.part stands at p.stands)

pub add_all_marks-returns : goal.add_all_marks-returns
add_all_marks-returns t c = λ ls s fs ts stands at h.
    let w = c.args.work.now in
    let k = c.loop-item.item-index in
    up_all w.symbols (mark_here s fs) c.args.marks.now ts c.loop-item.marks k (behind_past w k c.args.items.now ts h c.loop-item-test.false) (c.loop-item.invariant ls s fs ts stands at h)
