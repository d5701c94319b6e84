use Rattle.std.proofs.Common.{rules, arith, ◌+◌, ◌-◌, sym, ap, ◌∙◌}
use Rattle.std.specs.Prelude.{◌||◌, Bool}
use Rattle.std.specs.BTreeSet.{contains}
use Rattle.std.specs.Ordering.{nat_cmp}
use Rattle.scheme_model.specs.Trees.{Tree, Trees, Tail}
use Rattle.scheme_model.specs.Matching.{behind}
use Rattle.scheme_model.specs.Building.{stands_in, stands_among, stands_behind}
use Rattle.scheme_model.specs.Ident.{Ident as Identifier, same_ident}
use Rattle.syntax_tree.proofs.Looking.{end_within, within_positive, part_there, part_within, split_one, behind_past}
use Rattle.rules_build.proofs.NameLaws.{one_more, or_none, or_assoc}
use Rattle.rules_build.proofs.Tails.{end_proper, end_dotted, tail_within}
use Rattle.rules_build.proofs.used.+collect.Goals as goal

pub collect-collect-requires : goal.collect-collect-requires
collect-collect-requires t c =
    let w = c.args.work.now in
    let p = c.requires in
    let q = c.in-List.ensures.look p.0 p.1 in
    let deep = within_positive w c.args.template c.args.left p in
    (first_of (omega arith, search rules, grind arith), tail_within w c.in-List.end c.in-Some.tail (c.args.left - 1) c.in-Some.is (end_within w c.args.left p.0 c.in-List.end q.0 q.1 q.2 p.2 q.3 q.5))

pub collect-returns-in_ok-insert-in-Name : goal.collect-returns-in_ok-insert-in-Name
collect-returns-in_ok-insert-in-Name t c = λ u n i h is.
    let w = c.args.work.now in
    let q = c.in-Name.ensures.look u h in
    c.in_ok-insert-in-Name.ensures.updates.0 n ∙ one_more w.symbols c.told_apart.ensures.idents n c.in-Name.id i q.0 is q.3 (contains nat_cmp c.args.names.now n)
    ∙ ap (λ (x : Tree Identifier). contains nat_cmp c.args.names.now n || stands_in same_ident i x) (sym q.2)

pub collect-returns-in-None : goal.collect-returns-in-None
collect-returns-in-None t c = λ u n i h is.
    let w = c.args.work.now in
    let q = c.in-List.ensures.look u h in
    let e = end_proper w c.in-List.end q.1 c.in-None.is q.5 in
    let old = contains nat_cmp c.args.names.now n in
    c.in_ok-collect_all-in-List.ensures q.0 n i q.4 is ∙ ap (λ (b : Bool). old || b) (or_none (stands_among same_ident i q.0)) ∙ ap (λ (x : Tail Identifier). old || (stands_among same_ident i q.0 || stands_behind same_ident i x)) (sym e)
    ∙ ap (λ (x : Tree Identifier). old || stands_in same_ident i x) (sym q.3)

pub collect-returns-in_ok-collect-in-Some : goal.collect-returns-in_ok-collect-in-Some
collect-returns-in_ok-collect-in-Some t c = λ u n i h is.
    let w = c.args.work.now in
    let q = c.in-List.ensures.look u h in
    let e = end_dotted w c.in-List.end q.1 c.in-Some.tail c.in-Some.is q.5 in
    let old = contains nat_cmp c.args.names.now n in
    c.in_ok-collect-in-Some.ensures e.0 n i e.3 is ∙ ap (λ (b : Bool). b || stands_in same_ident i e.0) (c.in_ok-collect_all-in-List.ensures q.0 n i q.4 is) ∙ or_assoc old (stands_among same_ident i q.0) (stands_in same_ident i e.0)
    ∙ ap (λ (x : Tail Identifier). old || (stands_among same_ident i q.0 || stands_behind same_ident i x)) (sym e.1) ∙ ap (λ (x : Tree Identifier). old || stands_in same_ident i x) (sym q.3)

pub collect_all-collect-requires : goal.collect_all-collect-requires
collect_all-collect-requires t c = (first_of (omega arith, search rules, grind arith), part_within c.args.work.now c.args.items.now c.args.left c.loop-item.item-index _ c.requires c.loop-item-test.true)

pub collect_all-loop-item-preserved : goal.collect_all-loop-item-preserved
collect_all-loop-item-preserved t c = λ ts n i h is.
    let w = c.args.work.now in
    let k = c.loop-item.item-index in
    let p = part_there w k c.args.items.now ts (record { number = 0 }) h c.loop-item-test.true in
    let rest = stands_among same_ident i (behind (k + 1) ts) in
    let now = contains nat_cmp c.loop-item.names n in
    c.loop-item.invariant ts n i h is ∙ ap (λ (x : Trees Identifier). now || stands_among same_ident i x) (split_one w k ts _ p) ∙ sym (or_assoc now (stands_in same_ident i p.part) rest)
    ∙ ap (λ (b : Bool). b || rest) (sym (c.in_ok-collect.ensures p.part n i p.stands is))

pub collect_all-returns : goal.collect_all-returns
collect_all-returns t c = λ ts n i h is.
    let w = c.args.work.now in
    let k = c.loop-item.item-index in
    let now = contains nat_cmp c.loop-item.names n in
    or_none now ∙ ap (λ (x : Trees Identifier). now || stands_among same_ident i x) (sym (behind_past w k c.args.items.now ts h c.loop-item-test.false)) ∙ sym (c.loop-item.invariant ts n i h is)
