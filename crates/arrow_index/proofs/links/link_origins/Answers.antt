use Rattle.std.proofs.Common.{[], ◌∷◌, ◌+◌, Some, take, refl, sym, ap, ◌∙◌, arith}
use Rattle.scheme_model.specs.Spelling.{links_at}
use Rattle.syntax_tree.specs.Meant.{IsOrigin}
use Rattle.program_leaves.proofs.Growing.{grows_as, grows_by_none, grows_twice}
use Rattle.program_leaves.proofs.VariableLaws.{match_item, match_all}
use Rattle.arrow_index.specs.Links.{as_link}
use Rattle.arrow_index.proofs.LinkLaws.{are_match, links-append}
use Rattle.arrow_index.proofs.links.link_origins.Goals as goal

pub loop-origin-init : goal.loop-origin-init
loop-origin-init c = λ m ps given are. grows_by_none as_link c.args.links.now.items [] refl

pub loop-origin-preserved : goal.loop-origin-preserved
loop-origin-preserved c = λ m ps given are.
    let k = c.loop-origin.origin-index in
    let t = c.args.target in
    let a = match_item (IsOrigin m) c.args.origins.now ps k c.origin-item.result (are_match m c.args.origins.now ps are) (omega arith) c.origin-item.is in
    grows_twice as_link c.args.links.now.items c.loop-origin.links.items c.link_origin.new.links.items (links_at (Some t) (take k ps)) (links_at (Some t) (a.item ∷ [])) (links_at (Some t) (take (k + 1) ps)) (c.loop-origin.invariant m ps given are)
    (c.in_ok-link_origin.ensures m a.item given a.is) (ap (links_at (Some t)) a.more ∙ links-append t (take k ps) (a.item ∷ []))

pub returns : goal.returns
returns c = λ m ps given are.
    let past = match_all (IsOrigin m) c.args.origins.now ps c.loop-origin.origin-index (are_match m c.args.origins.now ps are) (omega arith) in
    grows_as as_link c.args.links.now.items c.loop-origin.links.items _ _ (c.loop-origin.invariant m ps given are) (ap (links_at (Some c.args.target)) (sym past))
