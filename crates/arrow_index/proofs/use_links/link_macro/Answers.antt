use Rattle.std.proofs.Common.{◌≡◌, ◌++◌, List, map, sym, ap, ◌∙◌, subst}
use Rattle.std.proofs.lemmas.List.{append-nil}
use Rattle.scheme_model.specs.Ident.{symbol_of}
use Rattle.scheme_model.specs.Trees.{map_tree}
use Rattle.scheme_model.specs.Live.{any_name, no_hole}
use Rattle.scheme_model.specs.ProgramArrows.{Arrow, is_live_at, rule_arrows}
use Rattle.scheme_model.specs.Spelling.{arrow_links, macro_links}
use Rattle.core_tree.specs.Names.{AllMatch, IsLeaf}
use Rattle.core_tree.specs.declared.cores.RuleLeaf.{RuleLeaf}
use Rattle.program_leaves.specs.declared.pairs.Pair.{Pair}
use Rattle.program_leaves.specs.declared.leaves.Leaf.{Leaf}
use Rattle.program_leaves.specs.Pairs.{as_arrow}
use Rattle.program_leaves.specs.Leaves.{seen_of, IsSeen}
use Rattle.program_leaves.proofs.Growing.{grows_by_none, grows_twice}
use Rattle.arrow_index.specs.Links.{as_link}
use Rattle.arrow_index.proofs.LinkLaws.{static_links, quoted_macros}
use Rattle.arrow_index.proofs.use_links.link_macro.Goals as goal

pub returns-in_ok-link_statics-in-Defines : goal.returns-in_ok-link_statics-in-Defines
returns-in_ok-link_statics-in-Defines c = λ leaves keywords names table rs ls sees gives is.
    let l = c.args.leaf.now in
    let w = c.args.work.now in
    let live = is_live_at leaves keywords names in
    let all = macro_links live leaves table rs in
    let at = subst (λ (x : Leaf). IsSeen w l.at.unit l.at.form (seen_of x) ls) c.in-Defines.is is in
    let m = at.0 in
    let match = subst (λ (xs : List RuleLeaf). AllMatch (IsLeaf w.symbols l.at.unit l.at.form) xs m.leaves) (sym c.as_slice-in-Defines.ensures.value) at.2.leaves in
    let arrows = rule_arrows m.rules m.rules.rules in
    let pairs : map as_arrow c.as_slice.result.now ≡ arrows =
    ap (map as_arrow) c.as_slice.ensures.value ∙ c.in_ok-add_rules_arrows-in-Defines.ensures m.rules at.2.rules ∙ ap (λ (ps : List Pair). map as_arrow ps ++ arrows) c.new-pairs.ensures.items in
    let first = c.in_ok-link_arrows-in-Defines.ensures ∙ ap (λ (as' : List Arrow). map as_link c.args.links.now.items ++ arrow_links as') pairs in
    grows_twice as_link c.args.links.now.items c.link_arrows.new.links.items c.link_statics.new.links.items (arrow_links arrows) (static_links leaves table rs live m.leaves) (all ls) first
    (c.in_ok-link_statics-in-Defines.ensures leaves keywords names table rs m.leaves sees gives match) (ap all at.1 ∙ append-nil (arrow_links arrows ++ static_links leaves table rs live m.leaves))

pub returns-in-Quoted : goal.returns-in-Quoted
returns-in-Quoted c = λ leaves keywords names table rs ls sees gives is.
    let l = c.args.leaf.now in
    let w = c.args.work.now in
    let live = is_live_at leaves keywords names in
    let at = subst (λ (x : Leaf). IsSeen w l.at.unit l.at.form (seen_of x) ls) c.in-Quoted.is is in
    grows_by_none as_link c.args.links.now.items _ (ap (macro_links live leaves table rs) at.2 ∙ quoted_macros leaves table rs live any_name (map_tree symbol_of at.0))

pub returns-in-Holed : goal.returns-in-Holed
returns-in-Holed c = λ leaves keywords names table rs ls sees gives is.
    let l = c.args.leaf.now in
    let w = c.args.work.now in
    let live = is_live_at leaves keywords names in
    let at = subst (λ (x : Leaf). IsSeen w l.at.unit l.at.form (seen_of x) ls) c.in-Holed.is is in
    grows_by_none as_link c.args.links.now.items _ (ap (macro_links live leaves table rs) at.2 ∙ quoted_macros leaves table rs live no_hole at.0)
