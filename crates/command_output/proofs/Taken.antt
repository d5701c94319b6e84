-- Bytes taken from the front of what is left, read by read.
use Rattle.std.proofs.Common.{◌≡◌, ℕ, List, [], ◌∷◌, ◌++◌, take, drop, refl, sym, ap, ◌∙◌, append_assoc, Some, None, Option}
use Rattle.std.proofs.lemmas.List.{take-append-drop}
use Rattle.ls_outside.specs.Sources.{bytes_of, left_over, GotTakes}
use Rattle.ls_outside.specs.declared.source.Got.TheVariants as got
use Rattle.command_output.specs.Reads.{TakesBytes}

pub bytes_of-left_over : (rest : List ℕ) (pieces : List (List ℕ)) → bytes_of (left_over rest pieces) ≡ rest ++ bytes_of pieces
bytes_of-left_over [] pieces = refl
bytes_of-left_over (byte ∷ bytes) pieces = refl

-- n bytes more of the first piece
takes_more : (all bytes buffer piece : List ℕ) (pieces new : List (List ℕ)) (n : ℕ) → all ≡ bytes ++ (piece ++ bytes_of pieces) → take n buffer ≡ take n piece → new ≡ left_over (drop n piece) pieces →
    all ≡ (bytes ++ take n buffer) ++ bytes_of new
takes_more all bytes buffer piece pieces new n front same rest =
    front ∙ rw (rest, same, bytes_of-left_over) (ap (λ (whole : List ℕ). bytes ++ (whole ++ bytes_of pieces)) (sym (take-append-drop n piece)) ∙ simp append_assoc)

-- nothing is taken
pub takes_none : (left : Option (List (List ℕ))) → TakesBytes left left []
takes_none None = tt
takes_none (Some pieces) = refl

-- one read more
pub TakesBytes-more : (old mid new : Option (List (List ℕ))) (bytes buffer : List ℕ) (n : ℕ) → TakesBytes old mid bytes → GotTakes mid new (got.Some n) buffer → TakesBytes old new (bytes ++ take n buffer)
TakesBytes-more None mid new bytes buffer n front takes = tt
TakesBytes-more (Some old) None new bytes buffer n front takes = absurd front
TakesBytes-more (Some old) (Some mid) None bytes buffer n front takes = absurd takes
TakesBytes-more (Some old) (Some []) (Some new) bytes buffer n front takes = absurd takes
TakesBytes-more (Some old) (Some (piece ∷ pieces)) (Some new) bytes buffer n front takes =
    takes_more (bytes_of old) bytes buffer piece pieces new n front takes.bytes takes.rest
