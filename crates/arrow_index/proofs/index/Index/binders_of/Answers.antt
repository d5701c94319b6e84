use Rattle.std.proofs.Common.{◌↔◌, List, sym, subst}
use Rattle.scheme_model.specs.declared.Occ.{Occ}
use Rattle.scheme_model.specs.ProgramArrows.{arrows_of, binders_in}
use Rattle.program_leaves.specs.Pairs.{AreArrows}
use Rattle.program_leaves.specs.Members.{IsIn}
use Rattle.program_leaves.specs.declared.pairs.Pair.{Pair}
use Rattle.arrow_index.proofs.AccessLaws.{occs_alike}
use Rattle.arrow_index.proofs.index.Index.binders_of.Goals as goal

pub returns : goal.returns
returns c = λ all p is.
    c.in_ok-binders_among.ensures all p
    (λ o. subst (λ (os : List Occ). IsIn o os ↔ IsIn o (binders_in p)) (sym c.as_slice.ensures) (occs_alike c.args.self.now.binders (binders_in p) is.binders o))
    (subst (λ (ps : List Pair). AreArrows ps (arrows_of all p)) (sym c.as_slice-2.ensures) is.arrows)
