-- What pieces in memory have left to read.
use Rattle.std.specs.Prelude.{ℕ, List, map}
use Rattle.ls_outside.specs.Places.{bytes_in, from_place}
use Rattle.ls_outside.specs.declared.pieces.Pieces.{Pieces}

-- what is left, piece by piece
abbrev pub pieces_left : Pieces → List (List ℕ)
pieces_left p = from_place (map bytes_in p.pieces.items) p.at
