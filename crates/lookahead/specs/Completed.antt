-- The bodies that each piece of a stream completes (LSP 3.17, base protocol).
use Rattle.std.specs.Prelude.{ℕ, List, [], ◌∷◌, ◌++◌}
use Rattle.ls_base.specs.Frames.{End, IsFrames}

-- behind bytes that hold these bodies, each piece completes its own, and then the bytes end so
abbrev pub Completes : (bytes : List ℕ) (bodies : List (List ℕ)) → (pieces : List (List ℕ)) (given : List (List (List ℕ))) → End → Type 0
Completes bytes bodies [] [] end = IsFrames bytes bodies end
Completes bytes bodies [] (completed ∷ given) end = ⊥
Completes bytes bodies (piece ∷ pieces) [] end = ⊥
Completes bytes bodies (piece ∷ pieces) (completed ∷ given) end =
    ((after : End) × IsFrames (bytes ++ piece) (bodies ++ completed) after) × Completes (bytes ++ piece) (bodies ++ completed) pieces given end

-- the pieces of a stream complete these bodies, each its own, and the stream ends so
abbrev pub Complete : (pieces : List (List ℕ)) (given : List (List (List ℕ))) → End → Type 0
Complete pieces given end = Completes [] [] pieces given end
