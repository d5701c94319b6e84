-- The bytes of pieces, one piece more.
use Rattle.std.proofs.Common.{◌≡◌, ℕ, List, [], ◌∷◌, ◌++◌, length, take, sym, ap, ◌∙◌, append_assoc, append-nil, arith}
use Rattle.std.proofs.lemmas.List.{take_all}
use Rattle.ls_outside.specs.Sources.{bytes_of}

bytes_of-push : (pieces : List (List ℕ)) (piece : List ℕ) → bytes_of (pieces ++ piece ∷ []) ≡ bytes_of pieces ++ piece
bytes_of-push [] piece = append-nil piece
bytes_of-push (p ∷ pieces) piece = ap (λ (rest : List ℕ). p ++ rest) (bytes_of-push pieces piece) ∙ sym (append_assoc p (bytes_of pieces) piece)

-- a piece was noted whole
pub bytes_of-noted : (old new : List (List ℕ)) (piece : List ℕ) → new ≡ old ++ piece ∷ [] → bytes_of new ≡ bytes_of old ++ take (length piece) piece
bytes_of-noted old new piece noted =
    ap bytes_of noted ∙ bytes_of-push old piece ∙ ap (λ (rest : List ℕ). bytes_of old ++ rest) (sym (take_all (length piece) piece (omega arith)))
