use Rattle.std.proofs.Common.{List, Option, sym, ap, ◌∙◌, subst}
use Rattle.std.specs.List.{flat_map}
use Rattle.scheme_model.specs.ExpansionFaults.{Named}
use Rattle.scheme_model.specs.Ident.{Ident as Identifier}
use Rattle.scheme_model.specs.Trees.{name, list, tree}
use Rattle.scheme_model.specs.RulesShape.{role_of, dots_of, pattern_variables}
use Rattle.rename_model.specs.Walks.{rule_slots, pattern_name, template_name, pattern_nodes, nodes_in}
use Rattle.syntax_tree.specs.Macros.{identifiers}
use Rattle.syntax_tree.specs.Placed.{IsNamed}
use Rattle.syntax_tree.specs.declared.rules.Named as code
use Rattle.core_tree.specs.Names.{AllMatch}
use Rattle.program_leaves.proofs.AddLaws.{adds_both, all_match}
use Rattle.alpha_equal.specs.declared.trees.TreeNode.{TreeNode}
use Rattle.program_differences.specs.declared.rules.Variable.{Variable}
use Rattle.alpha_equal.specs.Nodes.{IsNode}
use Rattle.alpha_equal.specs.Slots.{IsSlot}
use Rattle.program_differences.specs.Variables.{numbered, placed, TellsPlaces}
use Rattle.program_differences.proofs.RuleLaws.{pattern_has, placed_is}
use Rattle.program_differences.proofs.rules.add_rule.Goals as goal

pub pattern_nodes-requires : goal.pattern_nodes-requires
pattern_nodes-requires c = let m = c.requires.rule in (list (tree (name m.1.head m.1.head_place) m.0.parts) m.0.tail m.1.place, m.1.pattern)

pub variables_of-requires : goal.variables_of-requires
variables_of-requires c =
    let P = IsNode c.args.work.now.symbols in
    let m = c.requires.rule in
    let t = c.requires.tells in
    let match = all_match P c.new-pattern.result.items c.pattern_nodes.new.nodes.items (pattern_nodes m.0) c.new-pattern.ensures.items (c.in_ok-pattern_nodes.ensures t.0 (name m.1.head m.1.head_place) m.0.parts m.0.tail m.1.place t.1 m.1.pattern) in
    (pattern_nodes m.0, subst (λ (xs : List TreeNode). AllMatch P xs (pattern_nodes m.0)) (sym c.as_slice.ensures.value) match)

pub add_pattern-requires : goal.add_pattern-requires
add_pattern-requires c =
    let P = IsNode c.args.work.now.symbols in
    let m = c.requires.rule in
    let t = c.requires.tells in
    let match = all_match P c.new-pattern.result.items c.pattern_nodes.new.nodes.items (pattern_nodes m.0) c.new-pattern.ensures.items (c.in_ok-pattern_nodes.ensures t.0 (name m.1.head m.1.head_place) m.0.parts m.0.tail m.1.place t.1 m.1.pattern) in
    (pattern_nodes m.0, subst (λ (xs : List TreeNode). AllMatch P xs (pattern_nodes m.0)) (sym c.as_slice-3.ensures.value) match)

pub template_nodes-requires : goal.template_nodes-requires
template_nodes-requires c = let m = c.requires.rule in (m.0.template, m.1.template)

pub returns : goal.returns
returns c = λ r unit form m tells is.
    let names = c.args.work.now.symbols in
    let P = IsNode names in
    let vars = pattern_variables identifiers r m in
    let nodes = pattern_nodes m in
    let inside = nodes_in (dots_of identifiers r) m.template in
    let match = all_match P c.new-pattern.result.items c.pattern_nodes.new.nodes.items nodes c.new-pattern.ensures.items (c.in_ok-pattern_nodes.ensures r (name is.head is.head_place) m.parts m.tail is.place tells is.pattern) in
    let seen = subst (λ (xs : List TreeNode). AllMatch P xs nodes) (sym c.as_slice.ensures.value) match in
    let again = subst (λ (xs : List TreeNode). AllMatch P xs nodes) (sym c.as_slice-3.ensures.value) match in
    let found = subst (λ (ms : List (Named Identifier)). AllMatch (IsNamed names) c.in_ok-variables.variables.items ms) (pattern_has r m) (c.in_ok-variables.ensures r nodes tells seen) in
    let places : TellsPlaces names c.in_ok-places.places vars = λ n i o other at.
    ap (λ (v : Option Variable). placed v o other) (c.in_ok-places.ensures n ∙ ap (λ (xs : List code.Named). numbered 0 xs n) c.as_slice-2.ensures.value)
    ∙ placed_is names c.told_apart.ensures.idents c.in_ok-variables.variables.items vars 0 n i o other found at in
    let made = all_match P c.new-template.result.items c.template_nodes.new.nodes.items inside c.new-template.ensures.items (c.in_ok-template_nodes.ensures r m.template tells is.template) in
    let last = subst (λ (xs : List TreeNode). AllMatch P xs inside) (sym c.as_slice-4.ensures.value) made in
    adds_both (IsSlot names unit form) c.args.slots.now.items c.add_pattern.new.slots.items c.add_template.new.slots.items
    (flat_map (rule_slots (λ i dots o. pattern_name vars (role_of identifiers r i) i o)) nodes) (flat_map (rule_slots (λ i dots o. template_name vars dots i o)) inside)
    (c.in_ok-add_pattern.ensures r vars unit form nodes tells places again) (c.in_ok-add_template.ensures names vars unit form inside places last)
