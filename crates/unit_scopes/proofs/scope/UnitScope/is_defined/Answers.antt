use Rattle.unit_scopes.proofs.DefineLaws.{defined_in_body, defined_in_unit}
use Rattle.unit_scopes.proofs.scope.UnitScope.is_defined.Goals as goal

pub returns-then-spot : goal.returns-then-spot
returns-then-spot c = λ work ls s fs i stands placed is.
    let spot = c.args.spot in
    defined_in_body work c.args.self.now ls s spot.scope fs spot.in_body c.args.ident i stands placed.inside is c.binds.result c.if-spot.true c.binds.ensures.0 c.binds.ensures.1

pub returns-else-spot : goal.returns-else-spot
returns-else-spot c = λ work ls s fs i stands placed is.
    let spot = c.args.spot in
    defined_in_unit work c.args.self.now ls s spot.scope fs spot.in_body c.args.ident i stands placed.inside is c.contains_key.result c.if-spot.false c.contains_key.ensures
