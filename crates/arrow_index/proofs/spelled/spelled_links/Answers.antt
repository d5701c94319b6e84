use Rattle.std.proofs.Common.{◌↔◌, List, sym, subst}
use Rattle.scheme_model.specs.declared.Occ.{Occ}
use Rattle.scheme_model.specs.ProgramArrows.{binders_in}
use Rattle.program_leaves.specs.Members.{IsIn}
use Rattle.program_leaves.proofs.PlacedLaws.{units_formed}
use Rattle.arrow_index.proofs.spelled.spelled_links.Goals as goal

pub of-requires : goal.of-requires
of-requires c = let q = c.requires in units_formed c.args.work.now q.0 q.1 q.2 q.3 c.args.program.now.units q.4

pub binders_in-requires : goal.binders_in-requires
binders_in-requires c = c.in_ok-sight.ensures.seen

pub links_seen-requires : goal.links_seen-requires
links_seen-requires c = let q = c.requires in (q.0, q.1, q.2, q.3, q.4, c.in_ok-sight.ensures.program q.0 q.1 q.2 q.3 q.4)

pub returns : goal.returns
returns c = λ text uris all p h.
    let sees = c.in_ok-sight.ensures.program text uris all p h in
    c.in_ok-links_seen.ensures text uris all p h sees
    (λ o. subst (λ (os : List Occ). IsIn o os ↔ IsIn o (binders_in p)) (sym c.as_slice.ensures.value) (c.in_ok-binders.ensures text uris all p h sees o))
