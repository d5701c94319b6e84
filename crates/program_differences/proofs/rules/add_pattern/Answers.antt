use Rattle.std.proofs.Common.{arith, false, None}
use Rattle.scheme_model.specs.RulesShape.{role_of}
use Rattle.rename_model.specs.Walks.{rule_slots, pattern_name}
use Rattle.syntax_tree.specs.Macros.{identifiers}
use Rattle.program_leaves.proofs.AddLaws.{adds_none}
use Rattle.program_leaves.proofs.VariableLaws.{match_at}
use Rattle.alpha_equal.specs.declared.trees.TreeNode.TheVariants as nodes
use Rattle.alpha_equal.specs.Nodes.{IsNode}
use Rattle.alpha_equal.specs.Slots.{IsSlot}
use Rattle.program_differences.proofs.RuleLaws.{adds_next, adds_all}
use Rattle.program_differences.proofs.rules.add_pattern.Goals as goal

pub loop-node-init : goal.loop-node-init
loop-node-init c = λ r vs unit form ts tells places match. adds_none (IsSlot c.args.work.now.symbols unit form) c.args.slots.now.items

pub add_pattern_node-requires : goal.add_pattern_node-requires
add_pattern_node-requires c =
    let a = match_at (IsNode c.args.work.now.symbols) c.args.nodes.now c.requires.0 c.loop-node.node-index (nodes.Name 0 false None) c.requires.1 (omega arith) in
    (a.item, a.is)

pub loop-node-preserved : goal.loop-node-preserved
loop-node-preserved c = λ r vs unit form ts tells places match.
    let k = c.loop-node.node-index in
    let f = rule_slots (λ i dots o. pattern_name vs (role_of identifiers r i) i o) in
    let a = match_at (IsNode c.args.work.now.symbols) c.args.nodes.now ts k (nodes.Name 0 false None) match (omega arith) in
    adds_next (IsSlot c.args.work.now.symbols unit form) f c.args.slots.now.items c.loop-node.slots.items c.add_pattern_node.new.slots.items ts k a.item a.more (c.loop-node.invariant r vs unit form ts tells places match) (c.in_ok-add_pattern_node.ensures r vs unit form a.item tells places a.is)

pub returns : goal.returns
returns c = λ r vs unit form ts tells places match.
    let f = rule_slots (λ i dots o. pattern_name vs (role_of identifiers r i) i o) in
    adds_all (IsSlot c.args.work.now.symbols unit form) f (IsNode c.args.work.now.symbols) c.args.slots.now.items c.loop-node.slots.items c.args.nodes.now ts c.loop-node.node-index match (omega arith) (c.loop-node.invariant r vs unit form ts tells places match)
