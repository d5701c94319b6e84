use Rattle.std.proofs.Common.{None, arith}
use Rattle.std.specs.BTreeMap.{get}
use Rattle.std.specs.Ordering.{nat_cmp}
use Rattle.program_leaves.proofs.KeyLaws.{place_more}
use Rattle.program_leaves.proofs.variables.places_of.Goals as goal

pub loop-variable-preserved : goal.loop-variable-preserved
loop-variable-preserved c = λ n.
    place_more c.args.variables.now c.loop-variable.variable-index n (record { ident = 0; occ = None }) (get nat_cmp c.loop-variable.places n) (get nat_cmp c.put_variable.new.places n) (omega arith) (c.loop-variable.invariant n) (c.in_ok-put_variable.ensures n)
