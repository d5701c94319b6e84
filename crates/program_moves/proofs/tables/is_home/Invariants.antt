use Rattle.std.proofs.Common.{◌≡◌, drop}
use Rattle.program_moves.specs.Sent.{is_home}
use Rattle.program_moves.proofs.tables.is_home.Given as goal

abbrev pub invariant-loop-home : goal.invariant-loop-home
invariant-loop-home l = is_home l.homes l.unit ≡ is_home (drop l.home-index l.homes) l.unit
