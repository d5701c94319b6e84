-- Texts, by the tokens that scheme_tokens tells of them: their data, and where they stop.
use Rattle.std.specs.Prelude.{◌≡◌, ℕ, List, map, Option}
use Rattle.std.specs.Option.{option_map}
use Rattle.scheme_tokens.specs.Lexical as told
use Rattle.scheme_tokens.specs.Faults as faulty
use Rattle.scheme_tokens.specs.Stopping as stopping
use Rattle.scheme_tokens.specs.Views.{number_of}
use Rattle.scheme_tokens.specs.declared.fault.ReadFault as told_fault
use Rattle.scheme_tokens.specs.declared.fault.ReadFault.TheVariants as faults
use Rattle.scheme_model.specs.Kinds.{Leaf, Mark, TokenKind, Paren, VectorParen, BytesParen, Close, Dot, Skip, Marked, Quote, Quasi, Unquote, Splice, Atomic, Name, Numeral, Quoted, Character, Truth, Token}
use Rattle.scheme_model.specs.Data.{Datum}
use Rattle.scheme_model.specs.Faults.{Stop}
use Rattle.scheme_model.specs.Stopping as model

-- the same leaf, mark, kind of token and token
abbrev pub leaf_seen : told.Leaf → Leaf
leaf_seen (told.Name name bars) = Name name bars
leaf_seen (told.Numeral text) = Numeral text
leaf_seen (told.Quoted text) = Quoted text
leaf_seen (told.Character c) = Character c
leaf_seen (told.Truth b) = Truth b

abbrev pub mark_seen : told.Mark → Mark
mark_seen told.Quote = Quote
mark_seen told.Quasi = Quasi
mark_seen told.Unquote = Unquote
mark_seen told.Splice = Splice

abbrev pub kind_seen : told.TokenKind → TokenKind
kind_seen told.Paren = Paren
kind_seen told.VectorParen = VectorParen
kind_seen told.BytesParen = BytesParen
kind_seen told.Close = Close
kind_seen told.Dot = Dot
kind_seen told.Skip = Skip
kind_seen (told.Marked mark) = Marked (mark_seen mark)
kind_seen (told.Atomic leaf) = Atomic (leaf_seen leaf)

abbrev pub token_seen : told.Token → Token
token_seen t = record { kind = kind_seen t.kind; start = t.start; end = t.end }

-- a fault of tokens by its number
abbrev pub stop_seen : faulty.FaultAt → Stop
stop_seen f = record { number = number_of f.fault; start = f.start; end = f.end }

-- a text has these tokens, and then it ends, or a fault comes
abbrev pub TextReads : List ℕ → List Token → Option Stop → Type 0
TextReads text ts end =
    (us : List told.Token) × (fin : Option faulty.FaultAt) × stopping.IsRead us fin text × (ts ≡ map token_seen us) × (end ≡ option_map stop_seen fin)

-- a text is these data as they are written
abbrev pub IsReading : List ℕ → List Datum → Type 0
IsReading text ds = model.IsReading (TextReads text) ds

-- where a text stops, and why
abbrev pub StopsAt : List ℕ → Stop → Type 0
StopsAt text fault = model.StopsAt (TextReads text) fault

-- a fault, unless memory ran out, is where the text stops
abbrev pub Explains : told_fault.ReadFault → List ℕ → Type 0
Explains faults.Memory text = Unit {0}
Explains (faults.At number span) text = StopsAt text (record { number = number; start = span.start; end = span.end })
