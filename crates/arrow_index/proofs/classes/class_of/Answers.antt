use Rattle.std.specs.BTreeSet.{contains}
use Rattle.program_leaves.specs.Placed.{occ_cmp}
use Rattle.arrow_index.proofs.ClassParts.{parts_law}
use Rattle.arrow_index.proofs.classes.class_of.Goals as goal

pub returns-clause-exact : goal.returns-clause-exact
returns-clause-exact c = λ all said.
    parts_law c.args.links.now all c.args.occ (λ o. contains occ_cmp c.in_ok-outside.outside o) c.in_ok-parts.parts.items c.in_ok-parts_in_order.field-0 said c.in_ok-outside.ensures c.in_ok-parts.ensures c.in_ok-parts_in_order.ensures
