use Rattle.std.proofs.Common.{arith}
use Rattle.syntax_tree.proofs.TableSteps.{entries_length}
use Rattle.syntax_tree.proofs.symbols.Symbols.ident_count.Goals as goal

pub returns : goal.returns
returns c = omega (arith, c.len.ensures.len, entries_length c.self.inside.names c.self.inside.idents c.args.self.now c.self.view_is)
