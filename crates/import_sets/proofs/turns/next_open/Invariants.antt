use Rattle.std.specs.BTreeSet.{btree_set_len}
use Rattle.import_sets.specs.Graphs.{is_open}
use Rattle.import_sets.proofs.WaitLaws.{AreKept}
use Rattle.import_sets.proofs.turns.next_open.Given as goal

-- all that are open still wait
abbrev pub invariant-loop-place : goal.invariant-loop-place
invariant-loop-place l = AreKept (is_open l.graph l.done) l.initial.waiting l.waiting

abbrev pub decreases-loop-place : goal.decreases-loop-place
decreases-loop-place l = btree_set_len l.waiting
