use Rattle.std.proofs.Common.{◌≡◌, List, drop}
use Rattle.form_pairs.specs.Found.{pair_in, pair_from}
use Rattle.carried_forms.specs.Paired.{UnitText}
use Rattle.form_pairs.specs.Units.{AreUnits}
use Rattle.form_pairs.proofs.pairs.pair_of.Given as goal

abbrev pub invariant-loop-number : goal.invariant-loop-number
invariant-loop-number l =
    (us vs : List UnitText) → AreUnits l.before.units.now us → AreUnits l.after vs → pair_in us l.before.unit vs ≡ pair_from us l.before.unit l.number (drop l.number vs)
