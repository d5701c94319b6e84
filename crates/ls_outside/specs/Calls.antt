-- What the calls of a stream took, one after another: a call that took nothing took an empty piece.
use Rattle.std.specs.Prelude.{◌≡◌, ℕ, ◌<◌, List, [], ◌∷◌, ◌++◌, length}
use Rattle.std.specs.List.{AllByRecursion}
use Rattle.ls_outside.specs.Sources.{bytes_of}

-- calls were made, and these are the bytes that they took
pub record CallsTake (old new : List (List ℕ)) (bytes : List ℕ) : Type 0 where
  pub calls : List (List ℕ)
  pub more : new ≡ old ++ calls
  pub whole : bytes ≡ bytes_of calls

-- and each took some
pub record AllTake (old new : List (List ℕ)) (bytes : List ℕ) : Type 0 where
  pub take : CallsTake old new bytes
  pub some : AllByRecursion (λ piece. 0 < length piece) take.calls

-- calls were made: the last took `last`, and those before it took the bytes before, each of them some
pub record LastTakes (old new : List (List ℕ)) (before last : List ℕ) : Type 0 where
  pub mid : List (List ℕ)
  pub earlier : AllTake old mid before
  pub call : new ≡ mid ++ last ∷ []

-- calls were made: the last took nothing, and those before it took these bytes, each of them some
abbrev pub LastTakesNone : (old new : List (List ℕ)) → (bytes : List ℕ) → Type 0
LastTakesNone old new bytes = LastTakes old new bytes []
