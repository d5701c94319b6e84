use Rattle.std.proofs.Common.{arith}
use Rattle.syntax_tree.proofs.Looking.{part_standing}
use Rattle.rules_build.proofs.walk.Walk.is_escape.Goals as goal

pub is_dots-requires : goal.is_dots-requires
is_dots-requires c = part_standing c.args.self.now.work.now 0 c.args.items.now _ c.requires.items (omega arith)
