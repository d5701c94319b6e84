use Rattle.std.proofs.Common.{◌≡◌, map, reverse, take}
use Rattle.included_forms.specs.Counted.{lost_of}
use Rattle.included_forms.specs.Losses.{lost_in, AreSpots}
use Rattle.included_forms.proofs.once.each_once.Given as goal

abbrev pub invariant-loop-string : goal.invariant-loop-string
invariant-loop-string l = record {
  spots : AreSpots l.spots (lost_in (take l.string-index l.found));
  lost : reverse (map lost_of l.lost.items) ≡ lost_in (take l.string-index l.found);
}
