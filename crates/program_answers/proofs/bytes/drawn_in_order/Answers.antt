-- What was sorted, each once, is what the definition puts in order.
use Rattle.program_leaves.proofs.Orders.{each_once}
use Rattle.scheme_model.specs.Answers.{drawn_before}
use Rattle.program_answers.specs.BytesKept.{drawn_seen}
use Rattle.program_answers.proofs.BytesLaws.{bytes_cmp, drawn_order, drawn_ties, drawn_total, one_drawn, pair_cmp}
use Rattle.program_answers.proofs.OrderedLaws.{in_order}
use Rattle.program_answers.proofs.bytes.drawn_in_order.Goals as goal

pub returns : goal.returns
returns c =
    in_order (pair_cmp bytes_cmp bytes_cmp) drawn_before drawn_order drawn_seen c.from_vec.result c.args.all.items
    (each_once drawn_total drawn_ties one_drawn c.args.all.items c.sort.new.self.items c.dedup.new.self.items c.from_vec.result c.in_ok-sort.ensures.permutation c.in_ok-sort.ensures.sorted c.dedup.ensures.filtered c.from_vec.ensures)
