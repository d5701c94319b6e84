use Rattle.std.proofs.Common.{[], ◌∷◌, map, sym, ap, ◌∙◌, subst}
use Rattle.std.specs.Prelude.{None}
use Rattle.std.specs.BTreeMap.{get}
use Rattle.std.specs.Ordering.{nat_cmp}
use Rattle.rename_model.specs.Walks.{AtRule, OfNode, ShowsNothing, IsEscape, IsInserted, LeafOf, Fixed, in_rules, atom_points, list_points, vector_points, rule_slots, template_name}
use Rattle.program_leaves.proofs.AddLaws.{adds_same}
use Rattle.alpha_equal.specs.declared.trees.TreeNode.{TreeNode}
use Rattle.alpha_equal.specs.Nodes.{IsNode}
use Rattle.alpha_equal.specs.Slots.{IsSlot}
use Rattle.program_differences.specs.Variables.{template_slots}
use Rattle.program_differences.proofs.RuleLaws.{template_named}
use Rattle.program_differences.proofs.rules.add_template_node.Goals as goal

pub returns-in_ok-add_template_name-in-Name : goal.returns-in_ok-add_template_name-in-Name
returns-in_ok-add_template_name-in-Name c = λ names vs unit form t places is.
    let f = rule_slots (λ i dots o. template_name vs dots i o) in
    let at = subst (λ (x : TreeNode). IsNode names x t) c.in-Name.is is in
    let o = c.in-Name.occ in
    let v = c.place_at.ensures in
    let named = (λ j. template_slots c.in-Name.dots (v j) o) ∙ template_named c.in-Name.dots (get nat_cmp c.args.places.now c.in-Name.ident) vs at.0 o (places c.in-Name.ident at.0 o (LeafOf IsInserted ∷ []) at.2) in
    adds_same (IsSlot names unit form) c.args.slots.now.items c.add_template_name.new.slots.items _ (f t) (named ∙ ap f (sym at.1)) (c.in_ok-add_template_name-in-Name.ensures names unit form)

pub returns-in_ok-add_atom-in-Atom : goal.returns-in_ok-add_atom-in-Atom
returns-in_ok-add_atom-in-Atom c = λ names vs unit form t places is.
    let f = rule_slots (λ i dots o. template_name vs dots i o) in
    let at = subst (λ (x : TreeNode). IsNode names x t) c.in-Atom.is is in
    adds_same (IsSlot names unit form) c.args.slots.now.items c.add_atom.new.slots.items (map Fixed (atom_points AtRule c.in-Atom.occ at.0)) (f t) (ap f (sym at.1)) (c.in_ok-add_atom-in-Atom.ensures names unit form at.0 at.2)

pub returns-in_ok-add_list-in-List : goal.returns-in_ok-add_list-in-List
returns-in_ok-add_list-in-List c = λ names vs unit form t places is.
    let f = rule_slots (λ i dots o. template_name vs dots i o) in
    let at = subst (λ (x : TreeNode). IsNode names x t) c.in-List.is is in
    adds_same (IsSlot names unit form) c.args.slots.now.items c.add_list.new.slots.items (map Fixed (list_points AtRule c.in-List.parts c.in-List.dotted)) (f t) (ap f (sym at)) (c.in_ok-add_list-in-List.ensures names unit form)

pub returns-in_ok-add_vector-in-Vector : goal.returns-in_ok-add_vector-in-Vector
returns-in_ok-add_vector-in-Vector c = λ names vs unit form t places is.
    let f = rule_slots (λ i dots o. template_name vs dots i o) in
    let at = subst (λ (x : TreeNode). IsNode names x t) c.in-Vector.is is in
    adds_same (IsSlot names unit form) c.args.slots.now.items c.add_vector.new.slots.items (map Fixed (vector_points AtRule c.in-Vector.parts)) (f t) (ap f (sym at)) (c.in_ok-add_vector-in-Vector.ensures names unit form)

pub returns-in_ok-add_node-in-Escape : goal.returns-in_ok-add_node-in-Escape
returns-in_ok-add_node-in-Escape c = λ names vs unit form t places is.
    let f = rule_slots (λ i dots o. template_name vs dots i o) in
    let at = subst (λ (x : TreeNode). IsNode names x t) c.in-Escape.is is in
    adds_same (IsSlot names unit form) c.args.slots.now.items c.add_node.new.slots.items (in_rules (OfNode IsEscape) None ShowsNothing ∷ []) (f t) (ap f (sym at)) (c.in_ok-add_node-in-Escape.ensures names unit form)
