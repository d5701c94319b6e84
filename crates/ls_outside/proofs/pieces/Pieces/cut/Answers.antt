use Rattle.std.proofs.Common.{List, ℕ, [], arith, subst}
use Rattle.std.proofs.lemmas.List.{append-nil, nil_from_length}
use Rattle.std.proofs.lemmas.Bool.Decides.{nat_tests}
use Rattle.ls_outside.specs.Left.{pieces_left}
use Rattle.ls_outside.specs.Sources.{AreCuts}
use Rattle.ls_outside.proofs.pieces.Pieces.cut.Goals as goal

pub returns : goal.returns
returns c =
    subst (λ (pieces : List (List ℕ)). AreCuts c.args.size c.args.bytes.now pieces) (append-nil (pieces_left c.loop-rest.pieces)) (c.loop-rest.invariant [] (nil_from_length _ (grind (arith, nat_tests))))
