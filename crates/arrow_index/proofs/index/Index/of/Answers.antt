use Rattle.std.proofs.Common.{◌↔◌, List, sym, subst}
use Rattle.scheme_model.specs.declared.Occ.{Occ}
use Rattle.scheme_model.specs.ProgramArrows.{binders_in}
use Rattle.program_leaves.specs.Members.{IsIn}
use Rattle.arrow_index.proofs.AccessLaws.{sorted_occs}
use Rattle.program_leaves.proofs.PlacedLaws.{units_formed}
use Rattle.arrow_index.proofs.index.Index.of.Goals as goal

pub of-requires : goal.of-requires
of-requires c = let q = c.requires in units_formed c.args.work.now q.0 q.1 q.2 q.3 c.args.program.now.units q.4

pub binders_in-requires : goal.binders_in-requires
binders_in-requires c = c.in_ok-sight.ensures.seen

pub arrows_seen-requires : goal.arrows_seen-requires
arrows_seen-requires c = c.in_ok-sight.ensures.seen

pub links_seen-requires : goal.links_seen-requires
links_seen-requires c = let q = c.requires in (q.0, q.1, q.2, q.3, q.4, c.in_ok-sight.ensures.program q.0 q.1 q.2 q.3 q.4)

pub returns : goal.returns
returns c = λ text uris all p h.
    let sees = c.in_ok-sight.ensures.program text uris all p h in
    let are = λ (o : Occ). c.in_ok-places.ensures text uris all p h sees o in
    record {
      arrows = c.in_ok-arrows.ensures text uris all p h sees;
      links = c.in_ok-links.ensures text uris all p h sees (λ o. subst (λ (os : List Occ). IsIn o os ↔ IsIn o (binders_in p)) (sym c.as_slice.ensures.value) (are o));
      binders = sorted_occs c.in_ok-places.places.items (binders_in p) c.in_ok-binders.binders are c.in_ok-binders.ensures;
      written = c.in_ok-written.ensures c.args.work.now all p sees (λ o. subst (λ (os : List Occ). IsIn o os ↔ IsIn o (binders_in p)) (sym c.as_slice-2.ensures.value) (are o));
      read = c.in_ok-read.ensures c.args.work.now text uris all p h sees;
    }
