use Rattle.std.proofs.Common.{List, ◌++◌, sym, subst, length}
use Rattle.std.specs.Prelude.{is_some}
use Rattle.std.specs.List.{flat_map}
use Rattle.rename_model.specs.Walks.{slots_of_rule, slots_of}
use Rattle.syntax_tree.specs.Macros.{AreRules}
use Rattle.syntax_tree.specs.declared.rules.Rule as code
use Rattle.program_leaves.proofs.AddLaws.{adds_both, adds_same, all_match}
use Rattle.program_leaves.proofs.VariableLaws.{tells_roles}
use Rattle.alpha_equal.specs.Slots.{IsSlot}
use Rattle.program_differences.specs.Variables.{heading, literals}
use Rattle.program_differences.proofs.RuleLaws.{slots_are}
use Rattle.program_differences.proofs.rules.slots_of.Goals as goal

pub add_all_rules-requires : goal.add_all_rules-requires
add_all_rules-requires c =
    let w = c.args.work.now in
    let r = c.requires.0 in
    let of = c.requires.1 in
    record {
      tells = (r, tells_roles w.symbols c.in_ok-roles.roles c.args.rules.now r c.in_ok-roles.ensures of.ellipsis of.literals);
      rules = (r.rules, subst (λ (xs : List code.Rule). AreRules w xs r.rules) (sym c.as_slice.ensures) of.rules);
    }

pub returns : goal.returns
returns c = λ unit form r of.
    let w = c.args.work.now in
    let rules = c.args.rules.now in
    let P = IsSlot w.symbols unit form in
    let old = c.new-slots.result.items in
    let new = c.add_all_rules.new.slots.items in
    let front = heading (is_some rules.ellipsis) (length rules.literals) (length rules.rules) ++ literals (length rules.literals) in
    let rest = flat_map (slots_of_rule r) r.rules in
    let tells = tells_roles w.symbols c.in_ok-roles.roles rules r c.in_ok-roles.ensures of.ellipsis of.literals in
    let are = subst (λ (xs : List code.Rule). AreRules w xs r.rules) (sym c.as_slice.ensures) of.rules in
    all_match P old new (slots_of r) c.new-slots.ensures.items
    (adds_same P old new (front ++ rest) (slots_of r) (slots_are w rules.ellipsis rules.literals rules.rules r of.ellipsis of.literals of.rules)
    (adds_both P old c.add_front.new.slots.items new front rest (c.in_ok-add_front.ensures w.symbols unit form) (c.in_ok-add_all_rules.ensures r unit form r.rules tells are)))
