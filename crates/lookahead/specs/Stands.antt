-- How a window stands.
use Rattle.std.specs.Prelude.{◌≡◌, ◌≤◌, length, map}
use Rattle.lookahead.specs.Cancelled.{max_group}
use Rattle.lookahead.specs.Counts.{IsOf, bodies_in, roles_in}
use Rattle.lookahead.specs.Roles.{role_of}
use Rattle.lookahead.specs.declared.window.Window.TheInside.{Inside}

pub record Stands (w : Inside) : Type 0 where
  pub few : length w.held.items ≤ max_group
  pub read : roles_in w.held.items ≡ map role_of (bodies_in w.held.items)
  pub of : IsOf (roles_in w.held.items) w.cancellations
