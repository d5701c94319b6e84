-- The text that `arrows` says by itself: the line of a text that isn't UTF-8.
use Rattle.std.specs.Prelude.{ℕ, List, codes}

-- what `arrows` prints for a text that isn't UTF-8
abbrev pub not_utf8_text : List ℕ
not_utf8_text = codes "input:0:0: error 13 not UTF-8\n"
