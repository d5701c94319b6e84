use Rattle.std.proofs.Common.{Bool, Some, None, sym, ap, ◌∙◌}
use Rattle.std.specs.Prelude.{if◌then◌else◌}
use Rattle.lookahead.proofs.RoleCounts.{found}
use Rattle.lookahead.proofs.cancellations.Cancellations.cancelled.Goals as goal

pub returns-then-has : goal.returns-then-has
returns-then-has c = λ roles of.
    ap (λ (b : Bool). if b then Some c.in-Request.id else None) (sym c.if-has.true) ∙ found c.args.role c.in-Request.id c.args.self.now roles c.has.result c.in-Request.is c.has.ensures of

pub returns-in-Request : goal.returns-in-Request
returns-in-Request c = λ roles of.
    ap (λ (b : Bool). if b then Some c.in-Request.id else None) (sym c.if-has.false) ∙ found c.args.role c.in-Request.id c.args.self.now roles c.has.result c.in-Request.is c.has.ensures of
