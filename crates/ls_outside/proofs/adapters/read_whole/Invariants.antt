use Rattle.std.proofs.Common.{◌≡◌, ◌+◌, ◌-◌, ◌≤◌, length, vec_len}
use Rattle.std.specs.Io.KnownBytes.{Consumes}
use Rattle.ls_outside.specs.Adapters.{reader_of, std_source_reads}
use Rattle.ls_outside.specs.Calls.{AllTake}
use Rattle.ls_outside.proofs.adapters.read_whole.Given as goal

abbrev pub invariant-loop-content : goal.invariant-loop-content
invariant-loop-content g l = record {
  read : Consumes (g.R.Read.remaining (reader_of l.fn.source)) (g.R.Read.remaining (reader_of l.source)) l.content.items;
  calls : AllTake (std_source_reads l.fn.source) (std_source_reads l.source) l.content.items;
  wide : length l.buf ≡ 4096;
  within : vec_len l.content ≤ l.max;
}

abbrev pub decreases-loop-content : goal.decreases-loop-content
decreases-loop-content g l = l.max + 1 - vec_len l.content
