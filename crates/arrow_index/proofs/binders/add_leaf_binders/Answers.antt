use Rattle.std.proofs.Common.{◌++◌, ap, subst, ◌∙◌}
use Rattle.std.proofs.lemmas.List.{append-nil}
use Rattle.scheme_model.specs.Ident.{symbol_of}
use Rattle.scheme_model.specs.Trees.{map_tree}
use Rattle.scheme_model.specs.Live.{any_name, no_hole}
use Rattle.scheme_model.specs.ProgramArrows.{places_at, rule_binders, leaf_binders}
use Rattle.program_leaves.specs.declared.leaves.Leaf.{Leaf}
use Rattle.program_leaves.specs.Leaves.{seen_of, IsSeen}
use Rattle.arrow_index.proofs.BinderLaws.{quoted_binds, none_added}
use Rattle.program_leaves.proofs.PlaceSteps.{some_added}
use Rattle.arrow_index.proofs.binders.add_leaf_binders.Goals as goal

pub returns-in_ok-add_place-in-Binds : goal.returns-in_ok-add_place-in-Binds
returns-in_ok-add_place-in-Binds c = λ ls is.
    let l = c.args.leaf.now in
    let w = c.args.work.now in
    let at = subst (λ (x : Leaf). IsSeen w l.at.unit l.at.form (seen_of x) ls) c.in-Binds.is is in
    some_added c.args.places.now.items c.add_place.new.places.items (places_at at.0.occ) (leaf_binders ls) (c.in_ok-add_place-in-Binds.ensures ∙ ap (λ o. c.args.places.now.items ++ places_at o) at.2.place) (ap leaf_binders at.1 ∙ append-nil (places_at at.0.occ))

pub returns-in-Uses : goal.returns-in-Uses
returns-in-Uses c = λ ls is.
    let l = c.args.leaf.now in
    let w = c.args.work.now in
    let at = subst (λ (x : Leaf). IsSeen w l.at.unit l.at.form (seen_of x) ls) c.in-Uses.is is in
    none_added c.args.places.now.items ls (ap leaf_binders at.1)

pub returns-in-Assigns : goal.returns-in-Assigns
returns-in-Assigns c = λ ls is.
    let l = c.args.leaf.now in
    let w = c.args.work.now in
    let at = subst (λ (x : Leaf). IsSeen w l.at.unit l.at.form (seen_of x) ls) c.in-Assigns.is is in
    none_added c.args.places.now.items ls (ap leaf_binders at.1)

pub returns-in-Quoted : goal.returns-in-Quoted
returns-in-Quoted c = λ ls is.
    let l = c.args.leaf.now in
    let w = c.args.work.now in
    let at = subst (λ (x : Leaf). IsSeen w l.at.unit l.at.form (seen_of x) ls) c.in-Quoted.is is in
    none_added c.args.places.now.items ls (ap leaf_binders at.2 ∙ quoted_binds any_name (map_tree symbol_of at.0))

pub returns-in-Holed : goal.returns-in-Holed
returns-in-Holed c = λ ls is.
    let l = c.args.leaf.now in
    let w = c.args.work.now in
    let at = subst (λ (x : Leaf). IsSeen w l.at.unit l.at.form (seen_of x) ls) c.in-Holed.is is in
    none_added c.args.places.now.items ls (ap leaf_binders at.2 ∙ quoted_binds no_hole at.0)

pub add_rules_binders-requires : goal.add_rules_binders-requires
add_rules_binders-requires c =
    let l = c.args.leaf.now in
    let w = c.args.work.now in
    let at = subst (λ (x : Leaf). IsSeen w l.at.unit l.at.form (seen_of x) c.requires.0) c.in-Defines.is c.requires.1 in
    (at.0.rules, at.2.rules)

pub returns-in_ok-add_rules_binders-in-Defines : goal.returns-in_ok-add_rules_binders-in-Defines
returns-in_ok-add_rules_binders-in-Defines c = λ ls is.
    let l = c.args.leaf.now in
    let w = c.args.work.now in
    let at = subst (λ (x : Leaf). IsSeen w l.at.unit l.at.form (seen_of x) ls) c.in-Defines.is is in
    let m = at.0 in
    some_added c.args.places.now.items c.add_rules_binders.new.places.items (rule_binders m.rules m.rules.rules) (leaf_binders ls) (c.in_ok-add_rules_binders-in-Defines.ensures m.rules at.2.rules) (ap leaf_binders at.1 ∙ append-nil (rule_binders m.rules m.rules.rules))
