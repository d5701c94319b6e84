use Rattle.std.proofs.Common.{◌≡◌, ◌-◌, ◌≤◌, length, take}
use Rattle.std.specs.Io.KnownBytes.{Appends}
use Rattle.ls_outside.specs.Calls.{AllTake}
use Rattle.command_output.proofs.printing.print_all.Given as goal

abbrev pub invariant-loop-at : goal.invariant-loop-at
invariant-loop-at g l = record {
  within : l.at ≤ length l.bytes;
  printed : Appends (g.O.Sink.taken l.fn.output) (g.O.Sink.taken l.output) (take l.at l.bytes);
  no_fault : g.O.Sink.faults l.output ≡ g.O.Sink.faults l.fn.output;
  calls : AllTake (g.O.Sink.writes l.fn.output) (g.O.Sink.writes l.output) (take l.at l.bytes);
}

abbrev pub decreases-loop-at : goal.decreases-loop-at
decreases-loop-at g l = length l.bytes - l.at
