use Rattle.std.proofs.Common.{arith, false, None}
use Rattle.rename_model.specs.Walks.{rule_slots, template_name}
use Rattle.program_leaves.proofs.AddLaws.{adds_none}
use Rattle.program_leaves.proofs.VariableLaws.{match_at}
use Rattle.alpha_equal.specs.declared.trees.TreeNode.TheVariants as nodes
use Rattle.alpha_equal.specs.Nodes.{IsNode}
use Rattle.alpha_equal.specs.Slots.{IsSlot}
use Rattle.program_differences.proofs.RuleLaws.{adds_next, adds_all}
use Rattle.program_differences.proofs.rules.add_template.Goals as goal

pub loop-node-init : goal.loop-node-init
loop-node-init c = λ names vs unit form ts places match. adds_none (IsSlot names unit form) c.args.slots.now.items

pub loop-node-preserved : goal.loop-node-preserved
loop-node-preserved c = λ names vs unit form ts places match.
    let k = c.loop-node.node-index in
    let f = rule_slots (λ i dots o. template_name vs dots i o) in
    let a = match_at (IsNode names) c.args.nodes.now ts k (nodes.Name 0 false None) match (omega arith) in
    adds_next (IsSlot names unit form) f c.args.slots.now.items c.loop-node.slots.items c.add_template_node.new.slots.items ts k a.item a.more (c.loop-node.invariant names vs unit form ts places match) (c.in_ok-add_template_node.ensures names vs unit form a.item places a.is)

pub returns : goal.returns
returns c = λ names vs unit form ts places match.
    let f = rule_slots (λ i dots o. template_name vs dots i o) in
    adds_all (IsSlot names unit form) f (IsNode names) c.args.slots.now.items c.loop-node.slots.items c.args.nodes.now ts c.loop-node.node-index match (omega arith) (c.loop-node.invariant names vs unit form ts places match)
