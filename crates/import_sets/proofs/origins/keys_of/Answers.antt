use Rattle.std.proofs.Common.{arith}
use Rattle.std.specs.BTreeSet.{contains}
use Rattle.import_sets.specs.Given.{key_cmp, key_of}
use Rattle.import_sets.proofs.KeyLaws.{keys_more}
use Rattle.import_sets.proofs.origins.keys_of.Goals as goal

pub loop-origin-preserved : goal.loop-origin-preserved
loop-origin-preserved c = λ o.
    keys_more c.args.origins.now c.loop-origin.origin-index c.origin-item.result o c.in_ok-key_of.field-0 (contains key_cmp c.loop-origin.keys (key_of o)) (contains key_cmp c.insert.new.self (key_of o))
    (omega arith) c.origin-item.is c.in_ok-key_of.ensures (c.loop-origin.invariant o) (c.in_ok-insert.ensures.updates.0 (key_of o))
