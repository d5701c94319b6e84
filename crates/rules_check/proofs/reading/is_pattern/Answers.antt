use Rattle.std.proofs.Common.{arith}
use Rattle.std.proofs.lemmas.Bool.Decides.{nat_tests}
use Rattle.syntax_tree.proofs.Looking.{part_standing}
use Rattle.rules_check.proofs.reading.is_pattern.Goals as goal

pub is_name-requires : goal.is_name-requires
is_name-requires c =
    let l = c.in-List.ensures.look c.requires.0 c.requires.1 in
    part_standing c.args.work.now 0 c.in-List.items.now _ (l.0, l.4) (grind (arith, nat_tests))
