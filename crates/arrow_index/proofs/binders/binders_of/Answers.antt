use Rattle.std.proofs.Common.{◌↔◌, List, sym, subst}
use Rattle.scheme_model.specs.declared.Occ.{Occ}
use Rattle.scheme_model.specs.ProgramArrows.{binders_in}
use Rattle.program_leaves.specs.Members.{IsIn}
use Rattle.arrow_index.proofs.binders.binders_of.Goals as goal

pub binders_in-requires : goal.binders_in-requires
binders_in-requires c = c.in_ok-sight.ensures.seen

pub returns : goal.returns
returns c = λ text uris all p h are.
    c.in_ok-binders_among.ensures all p
    (λ o. subst (λ (os : List Occ). IsIn o os ↔ IsIn o (binders_in p)) (sym c.as_slice.ensures.value) (c.in_ok-places.ensures text uris all p h (c.in_ok-sight.ensures.program text uris all p h) o)) are
