use Rattle.std.proofs.Common.{take, ap, arith}
use Rattle.std.specs.List.{flat_map}
use Rattle.rename_model.specs.Walks.{slots_of_rule}
use Rattle.syntax_tree.specs.declared.rules.Rule as code
use Rattle.program_leaves.proofs.AddLaws.{adds_none, adds_same}
use Rattle.program_leaves.proofs.VariableLaws.{rule_at, rules_all}
use Rattle.alpha_equal.specs.Slots.{IsSlot}
use Rattle.program_differences.proofs.RuleLaws.{adds_next}
use Rattle.program_differences.proofs.rules.add_all_rules.Goals as goal

-- what stands past the end
abbrev no_rule : code.Rule
no_rule = record { pattern = record { number = 0 }; template = record { number = 0 } }

pub loop-rule-init : goal.loop-rule-init
loop-rule-init c = λ r unit form ms tells are. adds_none (IsSlot c.args.work.now.symbols unit form) c.args.slots.now.items

pub add_rule-requires : goal.add_rule-requires
add_rule-requires c =
    let a = rule_at c.args.work.now c.args.rules.now c.requires.rules.0 c.loop-rule.rule-index no_rule c.requires.rules.1 (omega arith) in
    record { tells = c.requires.tells; rule = (a.item, a.is) }

pub loop-rule-preserved : goal.loop-rule-preserved
loop-rule-preserved c = λ r unit form ms tells are.
    let k = c.loop-rule.rule-index in
    let a = rule_at c.args.work.now c.args.rules.now ms k no_rule are (omega arith) in
    adds_next (IsSlot c.args.work.now.symbols unit form) (slots_of_rule r) c.args.slots.now.items c.loop-rule.slots.items c.add_rule.new.slots.items ms k a.item a.more (c.loop-rule.invariant r unit form ms tells are) (c.in_ok-add_rule.ensures r unit form a.item tells a.is)

pub returns : goal.returns
returns c = λ r unit form ms tells are.
    let k = c.loop-rule.rule-index in
    adds_same (IsSlot c.args.work.now.symbols unit form) c.args.slots.now.items c.loop-rule.slots.items (flat_map (slots_of_rule r) (take k ms)) (flat_map (slots_of_rule r) ms)
    (ap (flat_map (slots_of_rule r)) (rules_all c.args.work.now c.args.rules.now ms k are (omega arith))) (c.loop-rule.invariant r unit form ms tells are)
