use Rattle.std.proofs.Common.{refl}
use Rattle.rename_model.specs.Walks.{OfNode}
use Rattle.alpha_equal.specs.Points.{node_as}
use Rattle.program_differences.proofs.rules.add_node.Goals as goal

pub returns : goal.returns
returns c = λ names unit form. c.in_ok-add_seen.ensures names unit form (OfNode (node_as c.args.kind)) refl
