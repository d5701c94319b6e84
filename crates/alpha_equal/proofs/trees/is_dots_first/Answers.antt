use Rattle.std.proofs.Common.{arith}
use Rattle.syntax_tree.proofs.Looking.{part_standing}
use Rattle.alpha_equal.proofs.trees.is_dots_first.Goals as goal

pub is_dots-requires : goal.is_dots-requires
is_dots-requires c = part_standing c.args.work.now 0 c.args.items.now _ c.requires.parts (omega arith)
