use Rattle.std.proofs.Common.{◌≡◌, ℕ, ◌<◌, slice_get, Some, sym, subst}
use Rattle.scheme_model.specs.Ident.{Inserted}
use Rattle.syntax_tree.specs.Names.{Names}
use Rattle.syntax_tree.proofs.OrderLaws.{in_order}
use Rattle.syntax_tree.proofs.symbols.Symbols.in_order.Goals as goal

pub returns : goal.returns
returns c n i k h =
    let view = c.self.view_is in
    subst (λ (x : Names). (m : ℕ) × (m < n) × (slice_get x.idents m ≡ Some i)) view
    (in_order c.self.inside.names c.self.inside.idents n i k c.self.invariant (subst (λ (x : Names). slice_get x.idents n ≡ Some (Inserted i k)) (sym view) h))
