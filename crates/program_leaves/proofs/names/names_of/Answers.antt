use Rattle.std.proofs.Common.{arith}
use Rattle.syntax_tree.specs.Placed.{IsNamed}
use Rattle.program_leaves.specs.Names.{names_in}
use Rattle.program_leaves.proofs.AddLaws.{all_match}
use Rattle.program_leaves.proofs.names.names_of.Goals as goal

pub add_names-requires : goal.add_names-requires
add_names-requires c =
    let d = c.depth-left.ensures c.requires.0 c.requires.1 in
    (c.requires.0, c.requires.1, omega arith)

pub returns : goal.returns
returns c = λ u h. all_match (IsNamed c.args.work.now.symbols) c.new-names.result.items c.add_names.new.names.items (names_in u) c.new-names.ensures.items (c.in_ok-add_names.ensures u h)
