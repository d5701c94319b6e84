use Rattle.program_leaves.proofs.Orders.{each_once}
use Rattle.arrow_index.proofs.ClassParts.{part_total, part_ties, one_part}
use Rattle.arrow_index.proofs.classes.parts_in_order.Goals as goal

pub returns : goal.returns
returns c =
    each_once part_total part_ties one_part c.args.parts.items c.sort.new.self.items c.dedup.new.self.items c.from_vec.result c.in_ok-sort.ensures.permutation c.in_ok-sort.ensures.sorted c.dedup.ensures.filtered c.from_vec.ensures
