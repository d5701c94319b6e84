use Rattle.std.proofs.Common.{◌≡◌, ◌++◌, All, List, map, drop}
use Rattle.form_pairs.specs.Found.{IsCounted, pair_seen}
use Rattle.carried_forms.specs.Paired as paired
use Rattle.form_pairs.specs.Units.{AreUnits}
use Rattle.form_pairs.proofs.pairs.unit_pairs.Given as goal

abbrev pub invariant-loop-unit : goal.invariant-loop-unit
invariant-loop-unit l = record {
  pairs : (us vs : List paired.UnitText) → AreUnits l.before us → AreUnits l.after vs → map pair_seen l.pairs.items ++ paired.pairs_from l.unit (drop l.unit us) vs ≡ paired.unit_pairs us vs;
  counted : All (IsCounted l.before l.after) l.pairs.items;
}
