use Rattle.std.proofs.Common.{◌≡◌, map, take}
use Rattle.included_forms.specs.Built.{standing_for}
use Rattle.included_forms.proofs.tables.standings.Given as goal

abbrev pub invariant-loop-can_be : goal.invariant-loop-can_be
invariant-loop-can_be l = l.places.items ≡ map standing_for (take l.can_be-index l.usable)
