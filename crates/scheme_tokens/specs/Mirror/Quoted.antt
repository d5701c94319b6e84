-- What stands between quotation marks or bars (R7RS 7.1.1, string element and symbol element). A reading gives what is
-- meant and the text behind it, or the first fault.
use Rattle.std.specs.Prelude.{ℕ, zero, suc, ◌&&◌, ◌||◌, ◌==◌, List, [], ◌∷◌, ◌++◌, Option, Some, None, Result, Ok, Err, nat_lt, if◌then◌else◌}
use Rattle.std.specs.Char.{to_ascii_lowercase}
use Rattle.scheme_tokens.specs.Lexical.{is_one_of, is_line_end, is_blank, is_hex_digit, is_scalar}
use Rattle.scheme_tokens.specs.Mirror.Words.{front_of, behind, byte_count}
pub use Rattle.scheme_tokens.specs.Lexical.{hex_value}
pub use Rattle.scheme_tokens.specs.Faults.{Fault, bad_token, open_string, open_bar, open_comment, label, directive}

infixl 10 ◌>>=◌
abbrev pub ◌>>=◌ : {A B : Type 0} → Result A Fault → (A → Result B Fault) → Result B Fault
(Ok x) >>= f = f x
(Err e) >>= f = Err e

-- the text ends before this mark closes: `"` or `|`
abbrev pub open_at : ℕ → Fault
open_at close = if close == 34 then open_string else open_bar

-- what a letter behind `\` means
abbrev pub escaped : ℕ → Option ℕ
escaped c =
    if c == 97 then Some 7
    else if c == 98 then Some 8
    else if c == 116 then Some 9
    else if c == 110 then Some 10
    else if c == 114 then Some 13
    else if is_one_of (34 ∷ 92 ∷ 124 ∷ []) c then Some c
    else None

-- the character whose code hex digits write, of which there is one at least
abbrev pub hex_scalar : List ℕ → Option ℕ
hex_scalar [] = None
hex_scalar (d ∷ ds) = if is_scalar (hex_value (d ∷ ds)) then Some (hex_value (d ∷ ds)) else None

-- an element that means one character, if any
abbrev pub letter : Option ℕ → List ℕ → Result (List ℕ × List ℕ) Fault
letter None rest = Err bad_token
letter (Some c) rest = Ok (c ∷ [], rest)

-- the text ends behind the hex digits of an escape, which can go on where their number isn't past the last character's
abbrev pub digits_end : ℕ → List ℕ → Fault
digits_end close digits = if nat_lt (hex_value digits) 0x11_0000 then open_at close else bad_token

-- behind the hex digits of an escape: `;`
abbrev pub hex_end : ℕ → List ℕ → List ℕ → Result (List ℕ × List ℕ) Fault
hex_end close digits [] = Err (digits_end close digits)
hex_end close digits (c ∷ cs) = if c == 59 then letter (hex_scalar digits) cs else Err bad_token

-- a line end, whose first character this is: `\n`, `\r` or both, `\r` first
abbrev pub behind_line_end : ℕ → List ℕ → List ℕ
behind_line_end c [] = []
behind_line_end c (d ∷ ds) = if c == 13 && d == 10 then ds else d ∷ ds

-- a folded line end, behind its `\` and blanks; it and the blanks behind it mean nothing
abbrev pub fold_end : ℕ → List ℕ → Result (List ℕ × List ℕ) Fault
fold_end close [] = Err (open_at close)
fold_end close (c ∷ cs) = if is_line_end c then Ok ([], behind is_blank (behind_line_end c cs)) else Err bad_token

-- an escape, behind its `\`; lines are folded in strings alone
unfoldable pub escape : ℕ → List ℕ → Result (List ℕ × List ℕ) Fault
escape close [] = Err (open_at close)
escape close (c ∷ cs) =
    if to_ascii_lowercase c == 120 then hex_end close (front_of is_hex_digit cs) (behind is_hex_digit cs)
    else if close == 34 && (is_blank c || is_line_end c) then fold_end close (behind is_blank (c ∷ cs))
    else letter (escaped c) cs

-- one element; a line end in a string means `\n`
unfoldable pub element : ℕ → ℕ → List ℕ → Result (List ℕ × List ℕ) Fault
element close c cs =
    if c == 92 then escape close cs
    else if close == 34 && is_line_end c then Ok (10 ∷ [], behind_line_end c cs)
    else Ok (c ∷ [], cs)

-- elements up to the mark that closes, at most so many
unfoldable pub elements : ℕ → ℕ → List ℕ → Result (List ℕ × List ℕ) Fault
elements most close [] = Err (open_at close)
elements zero close (c ∷ cs) = Err (open_at close)
elements (suc most) close (c ∷ cs) =
    if c == close then Ok ([], cs)
    else (element close c cs >>= λ first. elements most close first.1 >>= λ more. Ok (first.0 ++ more.0, more.1))

-- all elements up to the mark that closes; each takes a byte at least
abbrev pub quoted : ℕ → List ℕ → Result (List ℕ × List ℕ) Fault
quoted close text = elements (byte_count text) close text
