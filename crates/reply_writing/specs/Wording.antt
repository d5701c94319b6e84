-- The text that a session says by itself: the log of a fault of frames.
use Rattle.std.specs.Prelude.{ℕ, List, ◌++◌, codes}
use Rattle.std.specs.Fmt.{decimal}

-- a fault of frames, by its number, at an offset of the stream
abbrev pub fault_text : ℕ → ℕ → List ℕ
fault_text number offset = (codes "frame fault " ++ decimal number) ++ (codes " at " ++ decimal offset)
