use Rattle.std.proofs.Common.{◌||◌, not, sym, ◌∙◌}
use Rattle.scheme_model.specs.ProgramArrows.{is_live_at}
use Rattle.program_leaves.proofs.Growing.{grows_as, grows_by_none}
use Rattle.arrow_index.specs.Links.{as_link}
use Rattle.arrow_index.proofs.LinkLaws.{of_target, static_is}
use Rattle.arrow_index.proofs.use_links.link_static.Goals as goal

pub returns-then-is_static : goal.returns-then-is_static
returns-then-is_static c = λ leaves keywords names table rs m sees gives is.
    let live = is_live_at leaves keywords names in
    let l = c.args.leaf.now in
    let test = (λ j. sym is.literal j || not (live (sym is.target.place j))) ∙ sym (c.is_static.ensures c.args.work.now leaves keywords names table sees) ∙ c.if-is_static.true in
    grows_as as_link c.args.links.now.items c.link_target.new.links.items (of_target leaves table rs m.target) _ (c.in_ok-link_target.ensures leaves keywords names table rs m.target sees gives is.target) (static_is leaves table rs live m _ test)

pub returns : goal.returns
returns c = λ leaves keywords names table rs m sees gives is.
    let live = is_live_at leaves keywords names in
    let l = c.args.leaf.now in
    let test = (λ j. sym is.literal j || not (live (sym is.target.place j))) ∙ sym (c.is_static.ensures c.args.work.now leaves keywords names table sees) ∙ c.if-is_static.false in
    grows_by_none as_link c.args.links.now.items _ (static_is leaves table rs live m _ test)
