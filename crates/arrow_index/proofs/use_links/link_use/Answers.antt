use Rattle.std.proofs.Common.{List, ap, ◌∙◌, subst}
use Rattle.std.proofs.lemmas.List.{append-nil}
use Rattle.scheme_model.specs.Ident.{symbol_of}
use Rattle.scheme_model.specs.Trees.{map_tree}
use Rattle.scheme_model.specs.Live.{CoreLeaf, any_name, no_hole}
use Rattle.scheme_model.specs.ProgramArrows.{core_targets}
use Rattle.scheme_model.specs.Spelling.{target_links}
use Rattle.program_leaves.specs.declared.leaves.Leaf.{Leaf}
use Rattle.program_leaves.specs.Leaves.{seen_of, IsSeen}
use Rattle.program_leaves.proofs.Growing.{grows_as, grows_by_none}
use Rattle.arrow_index.specs.Links.{as_link}
use Rattle.arrow_index.proofs.LinkLaws.{of_target, quoted_targets}
use Rattle.arrow_index.proofs.use_links.link_use.Goals as goal

pub returns-in_ok-link_target-in-Uses : goal.returns-in_ok-link_target-in-Uses
returns-in_ok-link_target-in-Uses c = λ leaves keywords names table rs ls sees gives is.
    let l = c.args.leaf.now in
    let w = c.args.work.now in
    let at = subst (λ (x : Leaf). IsSeen w l.at.unit l.at.form (seen_of x) ls) c.in-Uses.is is in
    let all = λ (xs : List CoreLeaf). target_links leaves table rs (core_targets xs) in
    let here = of_target leaves table rs at.0 in
    grows_as as_link c.args.links.now.items c.link_target.new.links.items here (all ls) (c.in_ok-link_target-in-Uses.ensures leaves keywords names table rs at.0 sees gives at.2)
    (ap all at.1 ∙ append-nil here)

pub returns-in_ok-link_target-in-Assigns : goal.returns-in_ok-link_target-in-Assigns
returns-in_ok-link_target-in-Assigns c = λ leaves keywords names table rs ls sees gives is.
    let l = c.args.leaf.now in
    let w = c.args.work.now in
    let at = subst (λ (x : Leaf). IsSeen w l.at.unit l.at.form (seen_of x) ls) c.in-Assigns.is is in
    let all = λ (xs : List CoreLeaf). target_links leaves table rs (core_targets xs) in
    let here = of_target leaves table rs at.0 in
    grows_as as_link c.args.links.now.items c.link_target-in-Assigns.new.links.items here (all ls) (c.in_ok-link_target-in-Assigns.ensures leaves keywords names table rs at.0 sees gives at.2)
    (ap all at.1 ∙ append-nil here)

pub returns-in-Quoted : goal.returns-in-Quoted
returns-in-Quoted c = λ leaves keywords names table rs ls sees gives is.
    let l = c.args.leaf.now in
    let w = c.args.work.now in
    let at = subst (λ (x : Leaf). IsSeen w l.at.unit l.at.form (seen_of x) ls) c.in-Quoted.is is in
    grows_by_none as_link c.args.links.now.items _ (ap (target_links leaves table rs) (ap core_targets at.2 ∙ quoted_targets any_name (map_tree symbol_of at.0)))

pub returns-in-Holed : goal.returns-in-Holed
returns-in-Holed c = λ leaves keywords names table rs ls sees gives is.
    let l = c.args.leaf.now in
    let w = c.args.work.now in
    let at = subst (λ (x : Leaf). IsSeen w l.at.unit l.at.form (seen_of x) ls) c.in-Holed.is is in
    grows_by_none as_link c.args.links.now.items _ (ap (target_links leaves table rs) (ap core_targets at.2 ∙ quoted_targets no_hole at.0))
