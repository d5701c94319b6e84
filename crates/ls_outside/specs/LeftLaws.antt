-- What pieces in memory have left is pieces of 1 to 65,536 bytes.
use Rattle.std.proofs.Common.{◌≡◌, ℕ, List, [], ◌∷◌, drop, map, refl, ap, ◌∙◌, arith, Bool, true, false, IsTrue, ◌&&◌}
use Rattle.std.specs.List.{list_all}
use Rattle.std.proofs.lemmas.List.{length-drop}
use Rattle.std.proofs.lemmas.Bool.Decides.{nat_tests}
use Rattle.ls_outside.specs.Places.{bytes_in, from_place, is_place}
use Rattle.ls_outside.specs.Left.{pieces_left}
use Rattle.ls_outside.specs.Sources.{is_piece}
use Rattle.ls_outside.specs.declared.pieces.Pieces.{Pieces}

both : (a b : Bool) → (a && b) ≡ true → (a ≡ true) × (b ≡ true)
both true true h = (refl, refl)
both true false h = cc
both false b h = cc

-- a piece from a place within it is a piece
rest_is_piece : (piece : List ℕ) (at : ℕ) → is_piece piece ≡ true → IsTrue (is_place (piece ∷ []) at) → is_piece (drop at piece) ≡ true
rest_is_piece piece at whole within = let n = length-drop at piece in grind (arith, nat_tests)

rest_are_pieces : (pieces : List (List ℕ)) (at : ℕ) → list_all is_piece pieces ≡ true → IsTrue (is_place pieces at) → list_all is_piece (from_place pieces at) ≡ true
rest_are_pieces [] at whole within = refl
rest_are_pieces (piece ∷ pieces) at whole within =
    let b = both (is_piece piece) (list_all is_piece pieces) whole in
    ap (λ (x : Bool). x && list_all is_piece pieces) (rest_is_piece piece at b.0 within) ∙ b.1

pub sized_left : (p : Pieces) → list_all is_piece (pieces_left p) ≡ true
sized_left p = rest_are_pieces (map bytes_in p.pieces.items) p.at p.sized p.within
