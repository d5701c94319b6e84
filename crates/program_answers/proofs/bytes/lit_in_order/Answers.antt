-- What was sorted, each once, is what the definition puts in order.
use Rattle.std.specs.Ordering.{nat_cmp}
use Rattle.program_leaves.proofs.Orders.{each_once}
use Rattle.scheme_model.specs.Answers.{lit_before}
use Rattle.program_answers.specs.BytesKept.{lit_seen}
use Rattle.program_answers.proofs.BytesLaws.{bytes_cmp, lit_order, lit_ties, lit_total, one_lit, pair_cmp}
use Rattle.program_answers.proofs.OrderedLaws.{in_order}
use Rattle.program_answers.proofs.bytes.lit_in_order.Goals as goal

pub returns : goal.returns
returns c =
    in_order (pair_cmp bytes_cmp nat_cmp) lit_before lit_order lit_seen c.from_vec.result c.args.all.items
    (each_once lit_total lit_ties one_lit c.args.all.items c.sort.new.self.items c.dedup.new.self.items c.from_vec.result c.in_ok-sort.ensures.permutation c.in_ok-sort.ensures.sorted c.dedup.ensures.filtered c.from_vec.ensures)
