use Rattle.std.proofs.Common.{[], Bool, subst, IsSorted}
use Rattle.std.specs.declared.cmp.Ordering.{Ordering}
use Rattle.std.specs.List.Retain.{IsFiltered, DiffersFromLast}
use Rattle.program_leaves.proofs.Orders.{each_once}
use Rattle.arrow_index.specs.declared.links.Link.{Link}
use Rattle.arrow_index.proofs.LinkOrders.{link_total, link_ties, one_link, cmp_is, eq_is}
use Rattle.arrow_index.proofs.spelled.links_in_order.Goals as goal

pub returns : goal.returns
returns c =
    let sorted = c.sort.new.self.items in
    let once = c.dedup.new.self.items in
    let up = subst (λ (R : Link → Link → Ordering). IsSorted R sorted) (λ j x y. cmp_is x y j) c.in_ok-sort.ensures.sorted in
    let kept = subst (λ (E : Link → Link → Bool). IsFiltered (DiffersFromLast E) [] sorted once) (λ j x y. eq_is x y j) c.dedup.ensures.filtered in
    each_once link_total link_ties one_link c.args.links.items sorted once c.from_vec.result c.in_ok-sort.ensures.permutation up kept c.from_vec.ensures
