use Rattle.std.proofs.Common.{[], ◌∷◌}
use Rattle.lookahead.specs.Roles.{role_of}
use Rattle.lookahead.proofs.ExitBars.{alone_by, exit_bars}
use Rattle.lookahead.proofs.laws.cancelled_by_what_follows.Goals as goal

pub returns : goal.returns
returns c = record { alone = λ body. λ j. alone_by (role_of body) j ∷ []; exit = exit_bars }
