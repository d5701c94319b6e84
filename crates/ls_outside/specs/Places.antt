-- Where in its pieces an object in memory stands.
use Rattle.std.specs.Prelude.{ℕ, List, [], ◌∷◌, length, drop, map, Bool, nat_lt, ◌==◌}
use Rattle.std.specs.List.{list_all}
use Rattle.std.specs.declared.vec.Vec.{Vec}
use Rattle.std.specs.declared.alloc.Global.{Global}
use Rattle.ls_outside.specs.Sources.{is_piece}

abbrev pub bytes_in : Vec ℕ Global → List ℕ
bytes_in bytes = bytes.items

-- the first piece from a place on, and the others
abbrev pub from_place : List (List ℕ) → ℕ → List (List ℕ)
from_place [] at = []
from_place (piece ∷ pieces) at = drop at piece ∷ pieces

abbrev pub are_pieces : List (Vec ℕ Global) → Bool
are_pieces pieces = list_all is_piece (map bytes_in pieces)

-- a place lies within the first piece, or is 0 where there is none
abbrev pub is_place : List (List ℕ) → ℕ → Bool
is_place [] at = at == 0
is_place (piece ∷ pieces) at = nat_lt at (length piece)

abbrev pub is_at : List (Vec ℕ Global) → ℕ → Bool
is_at pieces at = is_place (map bytes_in pieces) at
