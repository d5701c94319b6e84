-- Fronts of bytes that are printed piece by piece.
use Rattle.std.proofs.Common.{◌≡◌, ℕ, ◌+◌, ◌-◌, List, ◌++◌, length, take, drop, sym, ap, ◌∙◌, arith}
use Rattle.std.proofs.Math.Seq.{take-add}
use Rattle.std.proofs.lemmas.List.{take_all, length-drop}

-- a front, and n more bytes of the rest
pub front_more : (bytes : List ℕ) (at n : ℕ) → take at bytes ++ take n (take (length bytes - at) (drop at bytes)) ≡ take (at + n) bytes
front_more bytes at n =
    let l = length-drop at bytes in
    let whole : take (length bytes - at) (drop at bytes) ≡ drop at bytes = take_all _ _ (omega arith) in
    ap (λ (rest : List ℕ). take at bytes ++ take n rest) whole ∙ sym (take-add at n bytes)
