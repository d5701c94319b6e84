-- What a read of a part of the first piece leaves.
use Rattle.std.proofs.Common.{◌≡◌, ◌≢◌, ℕ, ◌+◌, ◌-◌, ◌<◌, List, [], ◌∷◌, length, take, drop, min, map, get_or, refl, sym, ap, ◌∙◌, arith}
use Rattle.std.specs.declared.vec.Vec.{Vec}
use Rattle.std.specs.declared.alloc.Global.{Global}
use Rattle.std.proofs.lemmas.List.{length-drop, drop-drop, take_all}
use Rattle.ls_outside.specs.Places.{bytes_in, from_place}
use Rattle.ls_outside.specs.Sources.{left_over, TakesPiece}
use Rattle.ls_outside.specs.declared.source.Got.TheVariants as got

left_over_some : (q : List ℕ) (qs : List (List ℕ)) → 0 < length q → q ∷ qs ≡ left_over q qs
left_over_some [] qs h = absurd (omega arith)
left_over_some (b ∷ bs) qs h = refl

-- n bytes were given of what is left of a piece, and some byte of it is still left
gives_part : (q buf rest : List ℕ) (qs : List (List ℕ)) (at n : ℕ) → rest ≡ drop at q → n ≡ min (length buf) (length rest) → take n buf ≡ take n rest → n ≢ length rest →
    TakesPiece (drop at q ∷ qs) (drop (at + n) q ∷ qs) (got.Some n) buf
gives_part q buf rest qs at n r count bytes more = record {
  count = count ∙ ap (λ (s : List ℕ). min (length buf) (length s)) r;
  bytes = bytes ∙ ap (take n) r;
  rest =
      ap (λ (s : List ℕ). s ∷ qs) (sym (drop-drop n at q)) ∙
      left_over_some (drop n (drop at q)) qs (omega (arith, ap length r, length-drop n (drop at q)));
}

-- the same, where the piece is the first of the vectors
pub read_part : (ps : List (Vec ℕ Global)) (v : Vec ℕ Global) (buf rest : List ℕ) (at n : ℕ) → 0 < length ps → v ≡ get_or ps 0 v → rest ≡ drop at (bytes_in v) →
    n ≡ min (length buf) (length rest) → take n buf ≡ take n rest → n ≢ length rest →
    TakesPiece (from_place (map bytes_in ps) at) (from_place (map bytes_in ps) (at + n)) (got.Some n) buf
read_part [] v buf rest at n some e r count bytes more = absurd (omega arith)
read_part (w ∷ ps) v buf rest at n some e r count bytes more = gives_part (bytes_in w) buf rest (map bytes_in ps) at n (r ∙ ap (λ (x : Vec ℕ Global). drop at (bytes_in x)) e) count bytes more

-- a slice of a piece's bytes from a place to the end
pub slice_rest : (slice bytes : List ℕ) (at : ℕ) → slice ≡ bytes → take (length slice - at) (drop at slice) ≡ drop at bytes
slice_rest slice bytes at e = rw e (let n = length-drop at bytes in take_all _ _ (omega arith))
