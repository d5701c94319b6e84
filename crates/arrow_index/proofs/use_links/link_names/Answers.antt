use Rattle.std.proofs.Common.{[], take, refl, sym, ap, arith}
use Rattle.scheme_model.specs.Spelling.{links_at, name_links}
use Rattle.program_leaves.specs.Sights.{IsNameOf}
use Rattle.program_leaves.proofs.Growing.{grows_as, grows_by_none, grows_twice}
use Rattle.program_leaves.proofs.VariableLaws.{match_item, match_all}
use Rattle.arrow_index.specs.Links.{as_link}
use Rattle.arrow_index.proofs.LinkLaws.{names_more}
use Rattle.arrow_index.proofs.use_links.link_names.Goals as goal

pub loop-name-init : goal.loop-name-init
loop-name-init c = λ ns match. grows_by_none as_link c.args.links.now.items [] refl

pub link_name-requires : goal.link_name-requires
link_name-requires c =
    let a = match_item (IsNameOf c.args.work.now) c.args.found.now c.requires.0 c.loop-name.name-index c.name-item.result c.requires.1 (omega arith) c.name-item.is in
    (a.item, a.is)

pub loop-name-preserved : goal.loop-name-preserved
loop-name-preserved c = λ ns match.
    let k = c.loop-name.name-index in
    let a = match_item (IsNameOf c.args.work.now) c.args.found.now ns k c.name-item.result match (omega arith) c.name-item.is in
    let m = a.item in
    grows_twice as_link c.args.links.now.items c.loop-name.links.items c.link_name.new.links.items (name_links (take k ns)) (links_at m.occ m.origins) _ (c.loop-name.invariant ns match) (c.in_ok-link_name.ensures m a.is) (names_more ns k m a.more)

pub returns : goal.returns
returns c = λ ns match.
    let past = match_all (IsNameOf c.args.work.now) c.args.found.now ns c.loop-name.name-index match (omega arith) in
    grows_as as_link c.args.links.now.items c.loop-name.links.items _ _ (c.loop-name.invariant ns match) (ap name_links (sym past))
