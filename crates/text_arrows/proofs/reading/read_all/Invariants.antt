use Rattle.std.proofs.Common.{◌≡◌, ◌+◌, ◌-◌, ◌≤◌, length, vec_len}
use Rattle.command_output.specs.Reads.{ReadsOn, TakesBytes, source_seen}
use Rattle.text_arrows.proofs.reading.read_all.Given as goal

abbrev pub invariant-loop-buf : goal.invariant-loop-buf
invariant-loop-buf g l = record {
  front : TakesBytes (g.I.Source.left l.fn.input) (g.I.Source.left l.input) l.text.items;
  on : ReadsOn (source_seen (g.I.Source.left l.fn.input) (g.I.Source.faults l.fn.input) (g.I.Source.reads l.fn.input))
      (source_seen (g.I.Source.left l.input) (g.I.Source.faults l.input) (g.I.Source.reads l.input)) l.text.items;
  wide : length l.buf ≡ 4096;
  stops : vec_len l.text ≤ 1048576 + 4096;
}

abbrev pub decreases-loop-buf : goal.decreases-loop-buf
decreases-loop-buf g l = 1048577 - vec_len l.text
