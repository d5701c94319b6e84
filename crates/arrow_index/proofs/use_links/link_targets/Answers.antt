use Rattle.std.proofs.Common.{◌≡◌, ◌<◌, None, subst, [], map, take, length, refl, sym, ap, arith}
use Rattle.std.proofs.lemmas.List.{get_or-map, length-map}
use Rattle.scheme_model.specs.Spelling.{target_links}
use Rattle.syntax_tree.specs.declared.meaning.Meaning.TheVariants as meanings
use Rattle.program_leaves.specs.declared.sight.PlacedTarget.{PlacedTarget}
use Rattle.program_leaves.specs.Placed.{use_of, Use, IsUseOf}
use Rattle.program_leaves.proofs.Growing.{grows_as, grows_by_none, grows_twice}
use Rattle.program_leaves.proofs.VariableLaws.{match_at, match_all}
use Rattle.arrow_index.specs.Links.{as_link}
use Rattle.arrow_index.proofs.LinkLaws.{of_target, targets_more}
use Rattle.arrow_index.proofs.use_links.link_targets.Goals as goal

pub loop-target-init : goal.loop-target-init
loop-target-init c = λ leaves keywords names table rs ts sees gives match. grows_by_none as_link c.args.links.now.items [] refl

pub link_target-requires-clause-target : goal.link_target-requires-clause-target
link_target-requires-clause-target c =
    let w = c.args.work.now in
    let xs = c.args.targets.now in
    let k = c.loop-target.target-index in
    let d : PlacedTarget = record { at = record { unit = 0; form = 0 }; target = record { meaning = meanings.Local 0; ident = 0; occ = None } } in
    let many : length (map use_of xs) ≡ length xs = length-map xs use_of in
    let lt : k < length xs = omega arith in
    let a = match_at (IsUseOf w) (map use_of xs) c.requires.targets.0 k (use_of d) c.requires.targets.1 (omega arith) in
    (a.item, subst (λ (u : Use). IsUseOf w u a.item) (get_or-map use_of xs k d (use_of d) lt) a.is)

pub loop-target-preserved : goal.loop-target-preserved
loop-target-preserved c = λ leaves keywords names table rs ts sees gives match.
    let w = c.args.work.now in
    let xs = c.args.targets.now in
    let k = c.loop-target.target-index in
    let d : PlacedTarget = record { at = record { unit = 0; form = 0 }; target = record { meaning = meanings.Local 0; ident = 0; occ = None } } in
    let many : length (map use_of xs) ≡ length xs = length-map xs use_of in
    let lt : k < length xs = omega arith in
    let a = match_at (IsUseOf w) (map use_of xs) ts k (use_of d) match (omega arith) in
    let is = subst (λ (u : Use). IsUseOf w u a.item) (get_or-map use_of xs k d (use_of d) lt) a.is in
    grows_twice as_link c.args.links.now.items c.loop-target.links.items c.link_target.new.links.items (target_links leaves table rs (take k ts)) (of_target leaves table rs a.item) _ (c.loop-target.invariant leaves keywords names table rs ts sees gives match)
    (c.in_ok-link_target.ensures leaves keywords names table rs a.item sees gives is) (targets_more leaves table rs ts k a.item a.more)

pub returns : goal.returns
returns c = λ leaves keywords names table rs ts sees gives match.
    let many : length (map use_of c.args.targets.now) ≡ length c.args.targets.now = length-map c.args.targets.now use_of in
    let past = match_all (IsUseOf c.args.work.now) (map use_of c.args.targets.now) ts c.loop-target.target-index match (omega arith) in
    grows_as as_link c.args.links.now.items c.loop-target.links.items _ _ (c.loop-target.invariant leaves keywords names table rs ts sees gives match) (ap (target_links leaves table rs) (sym past))
