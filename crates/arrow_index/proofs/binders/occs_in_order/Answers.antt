use Rattle.program_leaves.proofs.Orders.{each_once, occ_total, occ_ties}
use Rattle.program_leaves.proofs.KeyLaws.{one_occ}
use Rattle.arrow_index.proofs.binders.occs_in_order.Goals as goal

pub returns : goal.returns
returns c =
    each_once occ_total occ_ties one_occ c.args.places.items c.sort.new.self.items c.dedup.new.self.items c.from_vec.result c.in_ok-sort.ensures.permutation c.in_ok-sort.ensures.sorted c.dedup.ensures.filtered c.from_vec.ensures
