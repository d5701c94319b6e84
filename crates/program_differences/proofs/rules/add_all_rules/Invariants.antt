use Rattle.std.proofs.Common.{ℕ, List, take}
use Rattle.std.specs.List.{flat_map}
use Rattle.scheme_model.specs.RulesShape.{Rules, Rule}
use Rattle.scheme_model.specs.Ident.{Ident as Identifier}
use Rattle.rename_model.specs.Walks.{slots_of_rule}
use Rattle.syntax_tree.specs.Macros.{TellsRoles, AreRules}
use Rattle.program_leaves.specs.Adds.{Adds}
use Rattle.alpha_equal.specs.Slots.{IsSlot}
use Rattle.program_differences.proofs.rules.add_all_rules.Given as goal

abbrev pub invariant-loop-rule : goal.invariant-loop-rule
invariant-loop-rule l =
    (r : Rules Identifier) (unit form : ℕ) (ms : List (Rule Identifier)) → TellsRoles l.work.symbols l.roles r → AreRules l.work l.rules ms →
    Adds (IsSlot l.work.symbols unit form) l.fn.slots.items l.slots.items (flat_map (slots_of_rule r) (take l.rule-index ms))
