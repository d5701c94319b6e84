use Rattle.std.proofs.Common.{Some, None, sym, ◌∙◌}
use Rattle.unit_scopes.proofs.DefineLaws.{assigned_by}
use Rattle.unit_scopes.proofs.scope.UnitScope.is_assigned.Goals as goal

pub returns-in-None : goal.returns-in-None
returns-in-None c = λ work ls s fs i stands placed is.
    let spot = c.args.spot in
    assigned_by work c.args.self.now ls s spot.scope fs spot.in_body c.args.ident i stands placed.inside is None c.if-spot.false (sym c.is_program.ensures ∙ c.if-not-is_program.false) c.in-None.ensures.value

pub returns-in-Some : goal.returns-in-Some
returns-in-Some c = λ work ls s fs i stands placed is.
    let spot = c.args.spot in
    assigned_by work c.args.self.now ls s spot.scope fs spot.in_body c.args.ident i stands placed.inside is (Some c.in-Some.keyword.now) c.if-spot.false (sym c.is_program.ensures ∙ c.if-not-is_program.false) c.in-Some.ensures.value
