use Rattle.program_findings.proofs.UnboundLaws.{leaves_more}
use Rattle.program_findings.proofs.unbound.in_leaves.Goals as goal

pub loop-leaf-preserved : goal.loop-leaf-preserved
loop-leaf-preserved c = leaves_more c.args.found.now.items c.loop-leaf.yielded c.in-Some.leaf c.loop-leaf.found.items c.in_leaf.new.found.items c.loop-leaf.invariant c.in_ok-in_leaf.ensures
