use Rattle.std.proofs.Common.{subst}
use Rattle.syntax_tree.specs.Names.{Names, AreToldApart}
use Rattle.syntax_tree.proofs.TableSteps.{idents_apart}
use Rattle.syntax_tree.proofs.symbols.Symbols.told_apart.Goals as goal

pub returns-clause-idents : goal.returns-clause-idents
returns-clause-idents c =
    subst (λ (n : Names). AreToldApart n.idents) c.self.view_is (idents_apart c.self.inside.names c.self.inside.idents c.self.invariant)
