use Rattle.std.proofs.Common.{◌≡◌, ◌+◌, ◌-◌, ◌≤◌, length, drop}
use denote.Text.{Utf8}
use denote.Shadow.{shadow}
use Rattle.ls_base.specs.Positions.{bytes_within, units_of}
use Rattle.text_positions.specs.Walks.{first_line}
use Rattle.text_positions.proofs.within.bytes_in_line.Given as goal

abbrev pub invariant-loop-c : goal.invariant-loop-c
invariant-loop-c l = record {
  text : shadow (Utf8 l.rest);
  within : length l.rest ≤ length l.text;
  rest : l.rest ≡ drop (length l.text - length l.rest) l.text;
  so_far : (length l.text - length l.rest) + bytes_within (units_of l.encoding) l.left (first_line l.rest) ≡ bytes_within (units_of l.encoding) l.units (first_line l.text);
}

abbrev pub decreases-loop-c : goal.decreases-loop-c
decreases-loop-c l = length l.rest
