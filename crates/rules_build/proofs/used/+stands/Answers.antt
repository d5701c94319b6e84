use Rattle.std.proofs.Common.{rules, arith, ◌≡◌, ◌+◌, ◌-◌, sym, ap, ◌∙◌}
use Rattle.std.specs.Prelude.{◌||◌, Bool, true, false}
use Rattle.scheme_model.specs.Matching.{behind}
use Rattle.scheme_model.specs.Building.{stands_in, stands_among, stands_behind}
use Rattle.scheme_model.specs.Ident.{same_ident}
use Rattle.syntax_tree.proofs.Looking.{end_within, within_positive, part_there, part_within, split_one, behind_past}
use Rattle.rules_build.proofs.NameLaws.{number_same}
use Rattle.rules_build.proofs.Tails.{end_proper, end_dotted, tail_within}
use Rattle.rules_build.proofs.used.+stands.Goals as goal

pub stands-stands-requires : goal.stands-stands-requires
stands-stands-requires t c =
    let w = c.args.work.now in
    let p = c.requires in
    let q = c.in-List.ensures.look p.0 p.1 in
    let deep = within_positive w c.args.template c.args.left p in
    (first_of (omega arith, search rules, grind arith), tail_within w c.in-List.end c.in-Some.tail (c.args.left - 1) c.in-Some.is (end_within w c.args.left p.0 c.in-List.end q.0 q.1 q.2 p.2 q.3 q.5))

pub stands-returns-in-Name : goal.stands-returns-in-Name
stands-returns-in-Name t c = λ u i h is.
    let w = c.args.work.now in
    let q = c.in-Name.ensures.look u h in
    sym (ap (stands_in same_ident i) q.2 ∙ number_same w.symbols c.told_apart.ensures.idents c.args.id c.in-Name.other i q.0 is q.3)

pub stands-returns-in-None : goal.stands-returns-in-None
stands-returns-in-None t c = λ u i h is.
    let w = c.args.work.now in
    let q = c.in-List.ensures.look u h in
    let e = end_proper w c.in-List.end q.1 c.in-None.is q.5 in
    let none : stands_among same_ident i q.0 ≡ false = sym (c.any_stands-in-List.ensures q.0 i q.4 is) ∙ c.if-any_stands.false in
    sym (ap (stands_in same_ident i) q.3 ∙ ap (λ (b : Bool). b || stands_behind same_ident i q.1) none ∙ ap (stands_behind same_ident i) e)

pub stands-returns-in-Some : goal.stands-returns-in-Some
stands-returns-in-Some t c = λ u i h is.
    let w = c.args.work.now in
    let q = c.in-List.ensures.look u h in
    let e = end_dotted w c.in-List.end q.1 c.in-Some.tail c.in-Some.is q.5 in
    let none : stands_among same_ident i q.0 ≡ false = sym (c.any_stands-in-List.ensures q.0 i q.4 is) ∙ c.if-any_stands.false in
    c.stands.ensures e.0 i e.3 is ∙ sym (ap (stands_in same_ident i) q.3 ∙ ap (λ (b : Bool). b || stands_behind same_ident i q.1) none ∙ ap (stands_behind same_ident i) e.1)

pub any_stands-stands-requires : goal.any_stands-stands-requires
any_stands-stands-requires t c = (first_of (omega arith, search rules, grind arith), part_within c.args.work.now c.args.items.now c.args.left c.loop-item.item-index _ c.requires c.loop-item-test.true)

pub any_stands-returns-then-stands : goal.any_stands-returns-then-stands
any_stands-returns-then-stands t c = λ ts i h is.
    let w = c.args.work.now in
    let k = c.loop-item.item-index in
    let p = part_there w k c.args.items.now ts (record { number = 0 }) h c.loop-item-test.true in
    let rest = stands_among same_ident i (behind (k + 1) ts) in
    let e : stands_in same_ident i p.part ≡ true = sym (c.stands.ensures p.part i p.stands is) ∙ c.if-stands.true in
    sym (c.loop-item.invariant ts i h is ∙ ap (stands_among same_ident i) (split_one w k ts _ p) ∙ ap (λ (b : Bool). b || rest) e)

pub any_stands-loop-item-preserved : goal.any_stands-loop-item-preserved
any_stands-loop-item-preserved t c = λ ts i h is.
    let w = c.args.work.now in
    let k = c.loop-item.item-index in
    let p = part_there w k c.args.items.now ts (record { number = 0 }) h c.loop-item-test.true in
    let rest = stands_among same_ident i (behind (k + 1) ts) in
    let e : stands_in same_ident i p.part ≡ false = sym (c.stands.ensures p.part i p.stands is) ∙ c.if-stands.false in
    c.loop-item.invariant ts i h is ∙ ap (stands_among same_ident i) (split_one w k ts _ p) ∙ ap (λ (b : Bool). b || rest) e

pub any_stands-returns : goal.any_stands-returns
any_stands-returns t c = λ ts i h is.
    sym (c.loop-item.invariant ts i h is ∙ ap (stands_among same_ident i) (behind_past c.args.work.now c.loop-item.item-index c.args.items.now ts h c.loop-item-test.false))
