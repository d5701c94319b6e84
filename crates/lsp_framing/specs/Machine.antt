-- What the machine does at each byte before a body, and what it makes of bytes.
use Rattle.std.specs.Prelude.{ℕ, ◌+◌, nat_le, nat_lt, ◌==◌, ◌&&◌, Bool, false, List, [], ◌∷◌, Option, Some, None, Result, Ok, Err, if◌then◌else◌, slice_index, codes}
use Rattle.std.specs.Char.{is_ascii_digit, to_ascii_lowercase}
use Rattle.ls_base.specs.Frames.{is_name_byte, is_blank, with_digit, max_header, max_body, Fault, bad_header, no_length, bad_length, long_header, long_body}
use Rattle.lsp_framing.specs.declared.header.HeaderState.{HeaderState}
use Rattle.lsp_framing.specs.declared.header.HeaderState.TheVariants.{Line, Name, Value, BeforeDigits, Digits, AfterDigits, LineFeed, LastLineFeed}
use Rattle.lsp_framing.specs.declared.header.State.{State}
use Rattle.lsp_framing.specs.declared.header.State.TheVariants.{Header, Body}
use Rattle.lsp_framing.specs.declared.header.Wrong.{Wrong}
use Rattle.lsp_framing.specs.declared.header.Wrong.TheVariants.{LongHeader, NoLength, BadLength, LongBody, BadHeader}

-- the fault that a byte is
abbrev pub kind_of : Wrong → Fault
kind_of LongHeader = long_header
kind_of NoLength = no_length
kind_of BadLength = bad_length
kind_of LongBody = long_body
kind_of BadHeader = bad_header

-- how much of the length's name is spelled after one more byte
abbrev pub letter : Option ℕ → ℕ → Option ℕ
letter None byte = None
letter (Some count) byte = if nat_lt count 14 && (to_ascii_lowercase byte == slice_index (codes "content-length") count) then Some (count + 1) else None

-- all of it is spelled
abbrev pub is_length : Option ℕ → Bool
is_length None = false
is_length (Some count) = count == 14

abbrev pub at_empty_line : Option ℕ → Result HeaderState Wrong
at_empty_line None = Err NoLength
at_empty_line (Some length) = Ok (LastLineFeed length)

abbrev pub at_length : Option ℕ → Result HeaderState Wrong
at_length None = Ok BeforeDigits
at_length (Some length) = Err BadHeader

abbrev pub at_colon : Option ℕ → Option ℕ → Result HeaderState Wrong
at_colon told spelled = if is_length spelled then at_length told else Ok (Value told)

abbrev pub at_digit : ℕ → ℕ → Result HeaderState Wrong
at_digit length byte = if nat_le (with_digit length byte) max_body then Ok (Digits (with_digit length byte)) else Err LongBody

abbrev pub at_line : Option ℕ → ℕ → Result HeaderState Wrong
at_line told byte = if byte == 13 then at_empty_line told else if is_name_byte byte then Ok (Name told (letter (Some 0) byte)) else Err BadHeader

abbrev pub in_name : Option ℕ → Option ℕ → ℕ → Result HeaderState Wrong
in_name told spelled byte = if byte == 58 then at_colon told spelled else if is_name_byte byte then Ok (Name told (letter spelled byte)) else Err BadHeader

abbrev pub in_value : Option ℕ → ℕ → Result HeaderState Wrong
in_value told byte = if byte == 13 then Ok (LineFeed told) else if byte == 10 then Err BadHeader else Ok (Value told)

abbrev pub before_digits : ℕ → Result HeaderState Wrong
before_digits byte = if is_ascii_digit byte then at_digit 0 byte else if is_blank byte then Ok BeforeDigits else Err BadLength

abbrev pub after_digits : ℕ → ℕ → Result HeaderState Wrong
after_digits length byte = if is_blank byte then Ok (AfterDigits length) else if byte == 13 then Ok (LineFeed (Some length)) else Err BadLength

abbrev pub in_digits : ℕ → ℕ → Result HeaderState Wrong
in_digits length byte = if is_ascii_digit byte then at_digit length byte else after_digits length byte

abbrev pub at_line_feed : Option ℕ → ℕ → Result HeaderState Wrong
at_line_feed told byte = if byte == 10 then Ok (Line told) else Err BadHeader

abbrev pub at_last_line_feed : ℕ → ℕ → Result State Wrong
at_last_line_feed length byte = if byte == 10 then Ok (Body length) else Err BadHeader

-- before the body still
abbrev pub onto : Result HeaderState Wrong → Result State Wrong
onto (Err wrong) = Err wrong
onto (Ok place) = Ok (Header place)

-- a byte before the body
abbrev pub step : HeaderState → ℕ → Result State Wrong
step (Line told) byte = onto (at_line told byte)
step (Name told spelled) byte = onto (in_name told spelled byte)
step (Value told) byte = onto (in_value told byte)
step BeforeDigits byte = onto (before_digits byte)
step (Digits length) byte = onto (in_digits length byte)
step (AfterDigits length) byte = onto (after_digits length byte)
step (LineFeed told) byte = onto (at_line_feed told byte)
step (LastLineFeed length) byte = at_last_line_feed length byte

-- a byte before the body, of which so many came
abbrev pub next : HeaderState → ℕ → ℕ → Result State Wrong
next place count byte = if nat_lt count max_header then step place byte else Err LongHeader

-- what bytes hold that follow a place: the rest of what stands before a body of this length, and what follows; a part
-- of it; or a byte that is wrong
pub data Peeled : Type 0 where
  whole : ℕ → List ℕ → Peeled
  part : HeaderState → Peeled
  wrong : Wrong → Peeled

-- after a step
abbrev pub onward : Result State Wrong → List ℕ → (HeaderState → Peeled) → Peeled
onward (Err w) rest go = wrong w
onward (Ok (Body length)) rest go = whole length rest
onward (Ok (Header place)) rest go = go place

abbrev pub peel : List ℕ → HeaderState → Peeled
peel [] place = part place
peel (byte ∷ bytes) place = onward (step place byte) bytes (peel bytes)
