use Rattle.std.proofs.Common.{arith}
use Rattle.syntax_tree.proofs.TableSteps.{entries_length}
use Rattle.syntax_tree.proofs.symbols.Symbols.strip.Goals as goal

pub index-requires : goal.index-requires
index-requires c = omega (arith, c.requires, entries_length c.self.inside.names c.self.inside.idents c.args.self.now c.self.view_is)
