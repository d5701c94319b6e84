use Rattle.std.proofs.Common.{List, ◌++◌, Option, map, sym, ap, ◌∙◌, subst}
use Rattle.std.proofs.lemmas.List.{append-nil}
use Rattle.scheme_model.specs.declared.Occ.{Occ}
use Rattle.scheme_model.specs.Ident.{symbol_of}
use Rattle.scheme_model.specs.Trees.{map_tree}
use Rattle.scheme_model.specs.Live.{any_name, no_hole}
use Rattle.scheme_model.specs.ProgramArrows.{arrow_of, binder_of, is_live_at, rule_arrows, leaf_arrows}
use Rattle.core_tree.specs.Names.{AllMatch, IsLeaf}
use Rattle.core_tree.specs.declared.cores.RuleLeaf.{RuleLeaf}
use Rattle.program_leaves.specs.declared.leaves.Leaf.{Leaf}
use Rattle.program_leaves.specs.Leaves.{seen_of, IsSeen}
use Rattle.program_leaves.specs.Pairs.{as_arrow}
use Rattle.program_leaves.specs.Variables.{all_arrows_at}
use Rattle.program_leaves.proofs.Growing.{grows_as, grows_by_none, grows_twice}
use Rattle.program_leaves.proofs.StepLaws.{quoted_arrows}
use Rattle.arrow_index.proofs.arrows.add_leaf.Goals as goal

pub returns-in-Binds : goal.returns-in-Binds
returns-in-Binds c = λ leaves keywords names table ls sees is.
    let l = c.args.leaf.now in
    let w = c.args.work.now in
    let all = all_arrows_at (binder_of leaves table) (is_live_at leaves keywords names) in
    let at = subst (λ (x : Leaf). IsSeen w l.at.unit l.at.form (seen_of x) ls) c.in-Binds.is is in
    grows_by_none as_arrow c.args.pairs.now.items (all ls) (ap all at.1)

pub returns-in_ok-add_meant-in-Uses : goal.returns-in_ok-add_meant-in-Uses
returns-in_ok-add_meant-in-Uses c = λ leaves keywords names table ls sees is.
    let l = c.args.leaf.now in
    let w = c.args.work.now in
    let all = all_arrows_at (binder_of leaves table) (is_live_at leaves keywords names) in
    let at = subst (λ (x : Leaf). IsSeen w l.at.unit l.at.form (seen_of x) ls) c.in-Uses.is is in
    let m = at.0 in
    let here = arrow_of (binder_of leaves table m.meaning) m.occ in
    let meant =
    c.in_ok-add_meant-in-Uses.ensures w leaves keywords names table m.meaning sees at.2.meaning
    ∙ ap (λ (o : Option Occ). map as_arrow c.args.pairs.now.items ++ arrow_of (binder_of leaves table m.meaning) o) at.2.place in
    grows_as as_arrow c.args.pairs.now.items c.add_meant.new.pairs.items here (all ls) meant
    (ap all at.1 ∙ append-nil here)

pub returns-in_ok-add_meant-in-Assigns : goal.returns-in_ok-add_meant-in-Assigns
returns-in_ok-add_meant-in-Assigns c = λ leaves keywords names table ls sees is.
    let l = c.args.leaf.now in
    let w = c.args.work.now in
    let all = all_arrows_at (binder_of leaves table) (is_live_at leaves keywords names) in
    let at = subst (λ (x : Leaf). IsSeen w l.at.unit l.at.form (seen_of x) ls) c.in-Assigns.is is in
    let m = at.0 in
    let here = arrow_of (binder_of leaves table m.meaning) m.occ in
    let meant =
    c.in_ok-add_meant-in-Assigns.ensures w leaves keywords names table m.meaning sees at.2.meaning
    ∙ ap (λ (o : Option Occ). map as_arrow c.args.pairs.now.items ++ arrow_of (binder_of leaves table m.meaning) o) at.2.place in
    grows_as as_arrow c.args.pairs.now.items c.add_meant-in-Assigns.new.pairs.items here (all ls) meant
    (ap all at.1 ∙ append-nil here)

pub returns-in-Quoted : goal.returns-in-Quoted
returns-in-Quoted c = λ leaves keywords names table ls sees is.
    let l = c.args.leaf.now in
    let w = c.args.work.now in
    let all = all_arrows_at (binder_of leaves table) (is_live_at leaves keywords names) in
    let at = subst (λ (x : Leaf). IsSeen w l.at.unit l.at.form (seen_of x) ls) c.in-Quoted.is is in
    grows_by_none as_arrow c.args.pairs.now.items (all ls) (ap all at.2 ∙ quoted_arrows (binder_of leaves table) (is_live_at leaves keywords names) any_name (map_tree symbol_of at.0))

pub returns-in-Holed : goal.returns-in-Holed
returns-in-Holed c = λ leaves keywords names table ls sees is.
    let l = c.args.leaf.now in
    let w = c.args.work.now in
    let all = all_arrows_at (binder_of leaves table) (is_live_at leaves keywords names) in
    let at = subst (λ (x : Leaf). IsSeen w l.at.unit l.at.form (seen_of x) ls) c.in-Holed.is is in
    grows_by_none as_arrow c.args.pairs.now.items (all ls) (ap all at.2 ∙ quoted_arrows (binder_of leaves table) (is_live_at leaves keywords names) no_hole at.0)

pub add_rules_arrows-requires : goal.add_rules_arrows-requires
add_rules_arrows-requires c =
    let l = c.args.leaf.now in
    let w = c.args.work.now in
    let at = subst (λ (x : Leaf). IsSeen w l.at.unit l.at.form (seen_of x) c.requires.0) c.in-Defines.is c.requires.1 in
    (at.0.rules, at.2.rules)

pub returns-in_ok-add_static-in-Defines : goal.returns-in_ok-add_static-in-Defines
returns-in_ok-add_static-in-Defines c = λ leaves keywords names table ls sees is.
    let l = c.args.leaf.now in
    let w = c.args.work.now in
    let binder = binder_of leaves table in
    let live = is_live_at leaves keywords names in
    let all = all_arrows_at binder live in
    let at = subst (λ (x : Leaf). IsSeen w l.at.unit l.at.form (seen_of x) ls) c.in-Defines.is is in
    let m = at.0 in
    let match = subst (λ (xs : List RuleLeaf). AllMatch (IsLeaf w.symbols l.at.unit l.at.form) xs m.leaves) (sym c.as_slice.ensures.value) at.2.leaves in
    grows_twice as_arrow c.args.pairs.now.items c.add_rules_arrows.new.pairs.items c.add_static.new.pairs.items (rule_arrows m.rules m.rules.rules) (leaf_arrows binder live m.leaves) (all ls) (c.in_ok-add_rules_arrows-in-Defines.ensures m.rules at.2.rules)
    (c.in_ok-add_static-in-Defines.ensures w leaves keywords names table m.leaves sees match) (ap all at.1 ∙ append-nil (rule_arrows m.rules m.rules.rules ++ leaf_arrows binder live m.leaves))
