-- How a position is written (LSP 3.17, Position).
use Rattle.std.specs.Prelude.{ℕ, List, ◌++◌, codes}
use Rattle.std.specs.Fmt.{decimal}
use Rattle.ls_base.specs.declared.places.Pos.{Pos}

-- `LINE:COLUMN`
abbrev pub place_text : Pos → List ℕ
place_text at = decimal at.line ++ (codes ":" ++ decimal at.character)
