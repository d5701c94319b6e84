use Rattle.std.proofs.Common.{sym, ◌∙◌}
use Rattle.program_leaves.proofs.Ends.{get_none, get_some}
use Rattle.arrow_index.proofs.PartSearch.{at_none, found}
use Rattle.arrow_index.proofs.classes.has_part.Goals as goal

pub returns-in-Some : goal.returns-in-Some
returns-in-Some c =
    let ps = c.args.parts.now in
    let at = c.first_part.result in
    c.eq.ensures ∙ found ps c.args.occ at c.requires c.first_part.ensures.point c.in-Some.part.now (get_some ps at c.in-Some.part.now (sym c.in-Some.ensures.lookup.0) c.in-Some.ensures.lookup.1)

pub returns-in-None : goal.returns-in-None
returns-in-None c =
    let ps = c.args.parts.now in
    let at = c.first_part.result in
    at_none ps c.args.occ at c.requires c.first_part.ensures.point (get_none ps at (sym c.in-None.ensures.lookup.0))
