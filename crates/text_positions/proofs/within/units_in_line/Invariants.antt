use Rattle.std.proofs.Common.{◌≡◌, ◌+◌, ◌≤◌, length}
use denote.Text.{Utf8}
use denote.Shadow.{shadow}
use Rattle.ls_base.specs.Positions.{units_of, units_within}
use Rattle.text_positions.specs.Walks.{first_line}
use Rattle.text_positions.proofs.within.units_in_line.Given as goal

abbrev pub invariant-loop-c : goal.invariant-loop-c
invariant-loop-c l = record {
  text : shadow (Utf8 l.rest);
  within : l.units + length l.rest ≤ length l.text;
  so_far : l.units + units_within (units_of l.encoding) l.left (first_line l.rest) ≡ units_within (units_of l.encoding) l.bytes (first_line l.text);
}

abbrev pub decreases-loop-c : goal.decreases-loop-c
decreases-loop-c l = length l.rest
