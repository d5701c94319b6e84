-- Gaps between tokens: white space, line comments and nested block comments (R7RS 2.2, 7.1.1).
use Rattle.std.specs.Prelude.{ℕ, zero, suc, ◌&&◌, ◌||◌, ◌==◌, Bool, List, [], ◌∷◌, Result, Ok, Err, if◌then◌else◌}
use Rattle.std.specs.Char.{is_whitespace}
use Rattle.scheme_tokens.specs.Lexical.{is_line_end}

-- where in a gap a text goes on: before a token, in a line comment, or in a block comment that began with a text and
-- lies in so many others
pub data Within : Type 0 where
  between : Within
  line : Within
  block : (start : List ℕ) (outer : ℕ) → Within

-- the marks of a block comment: `#|` opens, and `|#` closes
abbrev pub opens : ℕ → ℕ → Bool
opens c d = c == 35 && d == 124

abbrev pub closes : ℕ → ℕ → Bool
closes c d = c == 124 && d == 35

-- the text behind the gap; or the text from a block comment on that nothing closes
unfoldable pub behind_gap : Within → List ℕ → Result (List ℕ) (List ℕ)
behind_gap between [] = Ok []
behind_gap between (c ∷ []) = if is_whitespace c || c == 59 then Ok [] else Ok (c ∷ [])
behind_gap between (c ∷ d ∷ cs) =
    if is_whitespace c then behind_gap between (d ∷ cs)
    else if c == 59 then behind_gap line (d ∷ cs)
    else if opens c d then behind_gap (block (c ∷ d ∷ cs) 0) cs
    else Ok (c ∷ d ∷ cs)
behind_gap line [] = Ok []
behind_gap line (c ∷ cs) = if is_line_end c then behind_gap between cs else behind_gap line cs
behind_gap (block start outer) [] = Err start
behind_gap (block start outer) (c ∷ []) = Err start
behind_gap (block start zero) (c ∷ d ∷ cs) =
    if opens c d then behind_gap (block start 1) cs
    else if closes c d then behind_gap between cs
    else behind_gap (block start 0) (d ∷ cs)
behind_gap (block start (suc outer)) (c ∷ d ∷ cs) =
    if opens c d then behind_gap (block start (suc (suc outer))) cs
    else if closes c d then behind_gap (block start outer) cs
    else behind_gap (block start (suc outer)) (d ∷ cs)
