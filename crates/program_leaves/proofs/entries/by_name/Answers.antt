use Rattle.std.proofs.Common.{arith}
use Rattle.program_leaves.specs.Entries.{named}
use Rattle.program_leaves.proofs.EntryLaws.{named_more}
use Rattle.program_leaves.proofs.entries.by_name.Goals as goal

pub loop-entry-preserved : goal.loop-entry-preserved
loop-entry-preserved c = λ s.
    named_more c.args.entries.now c.loop-entry.entry-index c.entry-item.result s (named c.loop-entry.found s) (named c.put_entry.new.found s) (omega arith) c.entry-item.is (c.loop-entry.invariant s) (c.in_ok-put_entry.ensures s)
