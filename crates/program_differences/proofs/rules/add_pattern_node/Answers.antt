use Rattle.std.proofs.Common.{[], ◌∷◌, map, sym, ap, ◌∙◌, subst}
use Rattle.std.specs.Prelude.{None}
use Rattle.std.specs.BTreeMap.{get}
use Rattle.std.specs.Ordering.{nat_cmp}
use Rattle.scheme_model.specs.RulesShape.{role_of}
use Rattle.syntax_tree.specs.Macros.{identifiers}
use Rattle.rename_model.specs.Walks.{AtRule, OfNode, ShowsNothing, IsEscape, Fixed, in_rules, atom_points, list_points, vector_points, rule_slots, pattern_name}
use Rattle.program_leaves.proofs.AddLaws.{adds_same}
use Rattle.alpha_equal.specs.declared.trees.TreeNode.{TreeNode}
use Rattle.alpha_equal.specs.Nodes.{IsNode}
use Rattle.alpha_equal.specs.Slots.{IsSlot}
use Rattle.program_differences.specs.Variables.{pattern_slots}
use Rattle.alpha_equal.proofs.MeaningLaws.{within}
use Rattle.program_differences.proofs.RuleLaws.{pattern_named}
use Rattle.program_differences.proofs.rules.add_pattern_node.Goals as goal

pub role-role-requires : goal.role-role-requires
role-role-requires c =
    let at = subst (λ (x : TreeNode). IsNode c.args.work.now.symbols x c.requires.0) c.in-Name.is c.requires.1 in
    within c.args.work.now.symbols.idents c.in-Name.ident at.0 at.2

pub returns-in_ok-add_pattern_name-in-Name : goal.returns-in_ok-add_pattern_name-in-Name
returns-in_ok-add_pattern_name-in-Name c = λ r vs unit form t tells places is.
    let f = rule_slots (λ i dots o. pattern_name vs (role_of identifiers r i) i o) in
    let at = subst (λ (x : TreeNode). IsNode c.args.work.now.symbols x t) c.in-Name.is is in
    let o = c.in-Name.occ in
    let v = c.place_at.ensures in
    let named = (λ j. pattern_slots (c.role-role.ensures r at.0 tells at.2 j) (v j) o) ∙ pattern_named (role_of identifiers r at.0) (get nat_cmp c.args.places.now c.in-Name.ident) vs at.0 o (places c.in-Name.ident at.0 o [] at.2) in
    adds_same (IsSlot c.args.work.now.symbols unit form) c.args.slots.now.items c.add_pattern_name.new.slots.items _ (f t) (named ∙ ap f (sym at.1)) (c.in_ok-add_pattern_name-in-Name.ensures c.args.work.now.symbols unit form)

pub returns-in_ok-add_atom-in-Atom : goal.returns-in_ok-add_atom-in-Atom
returns-in_ok-add_atom-in-Atom c = λ r vs unit form t tells places is.
    let f = rule_slots (λ i dots o. pattern_name vs (role_of identifiers r i) i o) in
    let at = subst (λ (x : TreeNode). IsNode c.args.work.now.symbols x t) c.in-Atom.is is in
    adds_same (IsSlot c.args.work.now.symbols unit form) c.args.slots.now.items c.add_atom.new.slots.items (map Fixed (atom_points AtRule c.in-Atom.occ at.0)) (f t) (ap f (sym at.1)) (c.in_ok-add_atom-in-Atom.ensures c.args.work.now.symbols unit form at.0 at.2)

pub returns-in_ok-add_list-in-List : goal.returns-in_ok-add_list-in-List
returns-in_ok-add_list-in-List c = λ r vs unit form t tells places is.
    let f = rule_slots (λ i dots o. pattern_name vs (role_of identifiers r i) i o) in
    let at = subst (λ (x : TreeNode). IsNode c.args.work.now.symbols x t) c.in-List.is is in
    adds_same (IsSlot c.args.work.now.symbols unit form) c.args.slots.now.items c.add_list.new.slots.items (map Fixed (list_points AtRule c.in-List.parts c.in-List.dotted)) (f t) (ap f (sym at)) (c.in_ok-add_list-in-List.ensures c.args.work.now.symbols unit form)

pub returns-in_ok-add_vector-in-Vector : goal.returns-in_ok-add_vector-in-Vector
returns-in_ok-add_vector-in-Vector c = λ r vs unit form t tells places is.
    let f = rule_slots (λ i dots o. pattern_name vs (role_of identifiers r i) i o) in
    let at = subst (λ (x : TreeNode). IsNode c.args.work.now.symbols x t) c.in-Vector.is is in
    adds_same (IsSlot c.args.work.now.symbols unit form) c.args.slots.now.items c.add_vector.new.slots.items (map Fixed (vector_points AtRule c.in-Vector.parts)) (f t) (ap f (sym at)) (c.in_ok-add_vector-in-Vector.ensures c.args.work.now.symbols unit form)

pub returns-in_ok-add_node-in-Escape : goal.returns-in_ok-add_node-in-Escape
returns-in_ok-add_node-in-Escape c = λ r vs unit form t tells places is.
    let f = rule_slots (λ i dots o. pattern_name vs (role_of identifiers r i) i o) in
    let at = subst (λ (x : TreeNode). IsNode c.args.work.now.symbols x t) c.in-Escape.is is in
    adds_same (IsSlot c.args.work.now.symbols unit form) c.args.slots.now.items c.add_node.new.slots.items (in_rules (OfNode IsEscape) None ShowsNothing ∷ []) (f t) (ap f (sym at)) (c.in_ok-add_node-in-Escape.ensures c.args.work.now.symbols unit form)
