use Rattle.std.proofs.Common.{length, subst}
use Rattle.syntax_tree.specs.Names.{Names, StandBeside}
use Rattle.syntax_tree.proofs.ShorterTables.{all_beside}
use Rattle.syntax_tree.proofs.symbols.Symbols.symbols_stand.Goals as goal

pub returns : goal.returns
returns c = subst (λ (n : Names). StandBeside n (length n.symbols) (length n.idents)) c.self.view_is (all_beside c.self.inside.names c.self.inside.idents c.self.invariant)
