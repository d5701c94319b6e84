use Rattle.program_leaves.proofs.Orders.{each_once, pair_total, pair_ties, one_pair}
use Rattle.program_leaves.proofs.pairs.pairs_in_order.Goals as goal

pub returns : goal.returns
returns c =
    each_once pair_total pair_ties one_pair c.args.pairs.items c.sort.new.self.items c.dedup.new.self.items c.from_vec.result c.in_ok-sort.ensures.permutation c.in_ok-sort.ensures.sorted c.dedup.ensures.filtered c.from_vec.ensures
