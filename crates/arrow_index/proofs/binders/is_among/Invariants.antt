use Rattle.std.proofs.Common.{◌≡◌, take, false}
use Rattle.scheme_model.specs.Entries.{same_occ}
use Rattle.scheme_model.specs.ProgramArrows.{any}
use Rattle.arrow_index.proofs.binders.is_among.Given as goal

abbrev pub invariant-loop-place : goal.invariant-loop-place
invariant-loop-place l = any (λ p. same_occ p l.occ) (take l.place-index l.places) ≡ false
