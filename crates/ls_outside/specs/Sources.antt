-- What a read takes and answers, and when it may say that it failed.
use Rattle.std.specs.Prelude.{◌≡◌, ℕ, ◌<◌, ◌≤◌, min, List, [], ◌∷◌, ◌++◌, length, take, drop, Some, None, Bool, true, nat_lt, nat_le, ◌&&◌}
use Rattle.std.specs.List.{list_all}
use Rattle.std.specs.declared.option.Option.{Option}
use Rattle.ls_outside.specs.Counts.{Fails}
use Rattle.ls_outside.specs.declared.source.Got.{Got}
use Rattle.ls_outside.specs.declared.source.Got.TheVariants as got

-- the bytes of all pieces
abbrev pub bytes_of : List (List ℕ) → List ℕ
bytes_of [] = []
bytes_of (piece ∷ pieces) = piece ++ bytes_of pieces

-- the pieces are the bytes, cut after each `size` of them
abbrev pub AreCuts : ℕ → List ℕ → List (List ℕ) → Type 0
AreCuts size bytes [] = bytes ≡ []
AreCuts size bytes (piece ∷ pieces) = (0 < length bytes) × (piece ≡ take size bytes) × AreCuts size (drop size bytes) pieces

-- the rest of a piece, where it has any byte, before the others
abbrev pub left_over : List ℕ → List (List ℕ) → List (List ℕ)
left_over [] pieces = pieces
left_over (byte ∷ bytes) pieces = (byte ∷ bytes) ∷ pieces

-- n bytes of the first piece, as many as there are and as fit, are at the front of the buffer, and the rest is left
pub record TakesFront (piece : List ℕ) (pieces new : List (List ℕ)) (n : ℕ) (buffer : List ℕ) : Type 0 where
  pub count : n ≡ min (length buffer) (length piece)
  pub bytes : take n buffer ≡ take n piece
  pub rest : new ≡ left_over (drop n piece) pieces

-- a read takes the front of the first piece, ends only where no piece is left, and takes nothing where it fails
abbrev pub TakesPiece : List (List ℕ) → List (List ℕ) → Got → List ℕ → Type 0
TakesPiece [] new (got.Some n) buffer = ⊥
TakesPiece (piece ∷ pieces) new (got.Some n) buffer = TakesFront piece pieces new n buffer
TakesPiece [] new got.End buffer = new ≡ []
TakesPiece (piece ∷ pieces) new got.End buffer = ⊥
TakesPiece old new got.Failed buffer = new ≡ old

-- the same where what is left is told
abbrev pub GotTakes : Option (List (List ℕ)) → Option (List (List ℕ)) → Got → List ℕ → Type 0
GotTakes None new answer buffer = Unit {0}
GotTakes (Some old) None answer buffer = ⊥
GotTakes (Some old) (Some new) answer buffer = TakesPiece old new answer buffer

-- a read that takes takes one byte at least, and no more than the buffer has room for
abbrev pub GotWithin : Got → List ℕ → Type 0
GotWithin (got.Some n) buffer = (1 ≤ n) × (n ≤ length buffer)
GotWithin got.End buffer = Unit {0}
GotWithin got.Failed buffer = Unit {0}

-- the count of faults rises with a read that fails, and with no other
abbrev pub GotCounts : ℕ → ℕ → Got → Type 0
GotCounts before now (got.Some n) = now ≡ before
GotCounts before now got.End = now ≡ before
GotCounts before now got.Failed = Fails before now

-- a piece has 1 to 65,536 bytes
abbrev pub is_piece : List ℕ → Bool
is_piece piece = nat_lt 0 (length piece) && nat_le (length piece) 65536

-- what is left, where it is told, is pieces
abbrev pub ArePieces : Option (List (List ℕ)) → Type 0
ArePieces None = Unit {0}
ArePieces (Some pieces) = list_all is_piece pieces ≡ true

-- what a read took is noted behind what earlier reads took
abbrev pub GotNotes : List (List ℕ) → List (List ℕ) → Got → List ℕ → Type 0
GotNotes old new (got.Some n) buffer = new ≡ old ++ take n buffer ∷ []
GotNotes old new got.End buffer = new ≡ old ++ [] ∷ []
GotNotes old new got.Failed buffer = new ≡ old ++ [] ∷ []
