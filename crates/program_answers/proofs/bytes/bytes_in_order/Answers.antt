-- What was sorted, each once, is what the definition puts in order.
use Rattle.program_leaves.proofs.Orders.{each_once}
use Rattle.scheme_model.specs.Answers.{bytes_before}
use Rattle.program_answers.specs.BytesKept.{bytes_seen}
use Rattle.program_answers.proofs.BytesLaws.{bytes_cmp, bytes_order, bytes_ties, bytes_total, one_bytes}
use Rattle.program_answers.proofs.OrderedLaws.{in_order}
use Rattle.program_answers.proofs.bytes.bytes_in_order.Goals as goal

pub returns : goal.returns
returns c =
    in_order bytes_cmp bytes_before bytes_order bytes_seen c.from_vec.result c.args.all.items
    (each_once bytes_total bytes_ties one_bytes c.args.all.items c.sort.new.self.items c.dedup.new.self.items c.from_vec.result c.in_ok-sort.ensures.permutation c.in_ok-sort.ensures.sorted c.dedup.ensures.filtered c.from_vec.ensures)
