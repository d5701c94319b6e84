use Rattle.std.proofs.lemmas.Cmp.{nat_list_cmp_total}
use Rattle.syntax_tree.proofs.InternLaws.{bytes_told}
use Rattle.program_leaves.proofs.Orders.{each_once}
use Rattle.arrow_index.proofs.ClassParts.{name_ties}
use Rattle.arrow_index.proofs.classes.names_in_order.Goals as goal

pub returns : goal.returns
returns c =
    each_once nat_list_cmp_total name_ties bytes_told c.args.names.items c.sort.new.self.items c.dedup.new.self.items c.from_vec.result c.in_ok-sort.ensures.permutation c.in_ok-sort.ensures.sorted c.dedup.ensures.filtered c.from_vec.ensures
