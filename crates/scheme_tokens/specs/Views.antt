-- What the code's tokens and faults stand for. Its texts are UTF-8.
use Rattle.std.specs.Prelude.{◌≡◌, ◌<◌, ◌≤◌, ℕ, List, Option, Some, None, map}
use Rattle.std.specs.Str.{chars}
use Rattle.ls_base.specs.declared.places.Span.{Span}
use Rattle.scheme_tokens.specs.Lexical.{TokenKind, Paren, VectorParen, BytesParen, Close, Dot, Skip, Marked, Quote, Quasi, Unquote, Splice, Atomic, Name, Numeral, Quoted, Character, Truth, Token}
use Rattle.scheme_tokens.specs.Faults.{Fault, FaultAt, bad_token, open_string, open_bar, open_comment, label, directive}
use Rattle.scheme_tokens.specs.Stopping.{IsRead, Stops}
use Rattle.scheme_tokens.specs.declared.fault.ReadFault as code_read
use Rattle.scheme_tokens.specs.declared.fault.ReadFault.TheVariants as reads
use Rattle.scheme_tokens.specs.declared.token.TokenKind as code_kind
use Rattle.scheme_tokens.specs.declared.token.TokenKind.TheVariants as kinds
use Rattle.scheme_tokens.specs.declared.token.Token as code

-- the number by which a fault is told
abbrev pub number_of : Fault → ℕ
number_of bad_token = 1
number_of open_string = 2
number_of open_bar = 3
number_of open_comment = 4
number_of label = 9
number_of directive = 10

abbrev pub kind_of : code_kind.TokenKind → TokenKind
kind_of kinds.Paren = Paren
kind_of kinds.VectorParen = VectorParen
kind_of kinds.BytesParen = BytesParen
kind_of kinds.Close = Close
kind_of kinds.Dot = Dot
kind_of kinds.Quote = Marked Quote
kind_of kinds.Quasi = Marked Quasi
kind_of kinds.Unquote = Marked Unquote
kind_of kinds.Splice = Marked Splice
kind_of kinds.Skip = Skip
kind_of (kinds.Name name bars) = Atomic (Name (chars name) bars)
kind_of (kinds.Numeral text) = Atomic (Numeral (chars text))
kind_of (kinds.Quoted text) = Atomic (Quoted (chars text))
kind_of (kinds.Char c) = Atomic (Character c)
kind_of (kinds.Bool b) = Atomic (Truth b)

-- the symbol that a token names, if any
abbrev pub symbol_of : TokenKind → Option (List ℕ)
symbol_of Paren = None
symbol_of VectorParen = None
symbol_of BytesParen = None
symbol_of Close = None
symbol_of Dot = None
symbol_of Skip = None
symbol_of (Marked mark) = None
symbol_of (Atomic (Name name bars)) = Some name
symbol_of (Atomic (Numeral text)) = None
symbol_of (Atomic (Quoted text)) = None
symbol_of (Atomic (Character c)) = None
symbol_of (Atomic (Truth b)) = None

abbrev pub token_of : code.Token → Token
token_of t = record { kind = kind_of t.kind; start = t.span.start; end = t.span.end }

abbrev pub tokens_of : List code.Token → List Token
tokens_of ts = map token_of ts

-- a fault as callers are told it
abbrev pub read_fault : FaultAt → code_read.ReadFault
read_fault f = reads.At (number_of f.fault) (record { start = f.start; end = f.end })

-- the fault that a text stops at, as callers are told it
abbrev pub told_end : Option FaultAt → Option code_read.ReadFault
told_end None = None
told_end (Some f) = Some (read_fault f)

-- the text has these tokens, and then it ends, or this fault comes
abbrev pub IsFront : List code.Token → Option code_read.ReadFault → List ℕ → Type 0
IsFront ts fault text = (end : Option FaultAt) × IsRead (tokens_of ts) end text × (fault ≡ told_end end)

-- this fault, if it is one, is where the text stops
abbrev pub Explains : code_read.ReadFault → List ℕ → Type 0
Explains reads.Memory text = Unit {0}
Explains (reads.At number span) text = (f : FaultAt) × Stops f text × (reads.At number span ≡ read_fault f)

-- some bytes of a text of so many
abbrev pub IsWithin : ℕ → Span → Type 0
IsWithin size span = (span.start < span.end) × (span.end ≤ size)
