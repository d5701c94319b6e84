use Rattle.syntax_tree.proofs.Looking.{end_standing}
use Rattle.syntax_tree.proofs.rules.Roles.is_dots_end.Goals as goal

pub is_dots-requires : goal.is_dots-requires
is_dots-requires c = end_standing c.args.work.now c.args.end c.in-Some.tail c.in-Some.is c.requires
