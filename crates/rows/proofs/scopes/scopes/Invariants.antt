use Rattle.std.proofs.Common.{◌≡◌, length}
use Rattle.rows.proofs.scopes.scopes.Given as goal

-- the script counts its scopes
abbrev pub invariant-loop-step : goal.invariant-loop-step
invariant-loop-step l = l.script.scopes ≡ length l.script.env.scopes
