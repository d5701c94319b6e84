-- What a window answers, and what leaves it.
use Rattle.std.specs.Prelude.{◌≡◌, ℕ, List, [], ◌∷◌, Option, Some, None, Result, Ok, Err, Vec, map}
use Rattle.std.specs.Global.{Global}
use Rattle.lookahead.specs.Cancelled.{cancelled_by}
use Rattle.lookahead.specs.Roles.{role_of}
use Rattle.lookahead.specs.declared.window.Next.{Next}
use Rattle.lookahead.specs.declared.window.WindowFault.{WindowFault}
use Rattle.lookahead.specs.declared.window.WindowFault.TheVariants.{Full, Memory}

-- the body that comes back
abbrev pub handed_back : WindowFault → Vec ℕ Global
handed_back (Full body) = body
handed_back (Memory body) = body

abbrev pub IsFull : Result (Unit {0}) WindowFault → Type 0
IsFull (Ok taken) = ⊥
IsFull (Err (Full body)) = Unit {0}
IsFull (Err (Memory body)) = ⊥

-- the oldest of the bodies leaves, with the id by which those behind it cancel it, if they do; or there is none
abbrev pub Leaves : List (List ℕ) → Option Next → List (List ℕ) → Type 0
Leaves [] None left = left ≡ []
Leaves [] (Some next) left = ⊥
Leaves (body ∷ later) None left = ⊥
Leaves (body ∷ later) (Some next) left = (next.body.items ≡ body) × (next.cancelled ≡ cancelled_by (role_of body) (map role_of later)) × (left ≡ later)
