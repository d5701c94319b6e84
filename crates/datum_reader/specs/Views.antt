-- What the tokens and data of the code stand for.
use Rattle.std.specs.Prelude.{ℕ, List, map, Option, Some, None}
use Rattle.std.specs.Global.{Box, Vec}
use Rattle.std.specs.declared.alloc.Global.{Global}
use Rattle.std.specs.declared.rc.Rc.{Rc}
use Rattle.std.specs.Str.{chars}
use Rattle.ls_base.specs.declared.places.Span.{Span}
use Rattle.scheme_tokens.specs.declared.token.TokenKind as code_kind
use Rattle.scheme_tokens.specs.Views as spelled
use Rattle.scheme_tokens.specs.declared.token.Token as code_token
use Rattle.scheme_tokens.specs.declared.fault.ReadFault as told
use Rattle.scheme_tokens.specs.declared.fault.ReadFault.TheVariants as faults
use Rattle.datum_reader.specs.declared.datum.Datum as code
use Rattle.datum_reader.specs.declared.datum.Atom as code_atom
use Rattle.datum_reader.specs.declared.datum.Atom.TheVariants as atoms
use Rattle.datum_reader.specs.declared.datum.Mark as code_mark
use Rattle.datum_reader.specs.declared.datum.Mark.TheVariants as marks
use Rattle.datum_reader.specs.declared.datum.Shape.{Shape}
use Rattle.datum_reader.specs.declared.datum.Shape.TheOpen.{Datum-F, Shape-F}
use Rattle.datum_reader.specs.declared.datum.Shape.TheFolds.{fold-Datum, fold-Shape}
use Rattle.scheme_model.specs.Kinds.{Leaf, Name, Numeral, Quoted, Character, Truth, Mark, Quote, Quasi, Unquote, Splice, TokenKind, Token}
use Rattle.scheme_model.specs.Data.{Place, spelled, implied, Datum, atom, list, vector, bytes, Data, none, tail, row}
use Rattle.scheme_model.specs.Faults.{Stop}
use Rattle.datum_reader.specs.Texts.{kind_seen}

abbrev pub kind_of : code_kind.TokenKind → TokenKind
kind_of k = kind_seen (spelled.kind_of k)

abbrev pub token_of : code_token.Token → Token
token_of t = record { kind = kind_of t.kind; start = t.span.start; end = t.span.end }

abbrev pub tokens_of : List code_token.Token → List Token
tokens_of ts = map token_of ts

abbrev pub leaf_of : code_atom.Atom → Leaf
leaf_of (atoms.Name name bars) = Name (chars name) bars
leaf_of (atoms.Numeral text) = Numeral (chars text)
leaf_of (atoms.Quoted text) = Quoted (chars text)
leaf_of (atoms.Char c) = Character c
leaf_of (atoms.Bool b) = Truth b

abbrev pub mark_of : code_mark.Mark → Mark
mark_of marks.Quote = Quote
mark_of marks.Quasi = Quasi
mark_of marks.Unquote = Unquote
mark_of marks.Splice = Splice

-- parts that may be shared
abbrev pub Shared : Type 0
Shared = Rc (Vec code.Datum) Global

-- what a list ends with, whose tail is seen already
abbrev pub end_of : Option (Box Datum) → Data
end_of None = none
end_of (Some d) = tail d.value

-- one level, whose parts are seen already
abbrev pub shape_step : Shape-F (Place → Datum) Datum → Place → Datum
shape_step (Shape-F.Atom a) p = atom p (spelled (leaf_of a))
shape_step (Shape-F.Implied mark) p = atom p (implied (mark_of mark))
shape_step (Shape-F.List ds end) p = list p (row ds.value.items (end_of end))
shape_step (Shape-F.Vector ds) p = vector p (row ds.value.items none)
shape_step (Shape-F.Bytes texts) p = bytes p (map chars texts.items)

abbrev pub placed : ℕ → ℕ → Span → Place
placed first last span = record { first = first; last = last; start = span.start; end = span.end }

abbrev pub datum_step : Datum-F (Place → Datum) Datum → Datum
datum_step d = d.shape (placed d.first d.last d.span)

-- a shape at its place, and a datum
abbrev pub shape_of : Shape → Place → Datum
shape_of = fold-Shape (Place → Datum) Datum shape_step datum_step

abbrev pub datum_of : code.Datum → Datum
datum_of = fold-Datum (Place → Datum) Datum shape_step datum_step

abbrev pub data_of : List code.Datum → List Datum
data_of ds = map datum_of ds

-- what ends a list
abbrev pub end_data : Option (Box code.Datum) → Data
end_data None = none
end_data (Some d) = tail (datum_of d.value)

-- the bytes of a token, up to its end
abbrev pub bytes_seen : Span → ℕ × ℕ
bytes_seen s = (s.start, s.end)

abbrev pub bytes_of : Token → ℕ × ℕ
bytes_of t = (t.start, t.end)

-- a fault as callers are told it
abbrev pub told_of : Stop → told.ReadFault
told_of s = faults.At s.number (record { start = s.start; end = s.end })

-- how a text ends, as callers are told it
abbrev pub told_end : Option Stop → Option told.ReadFault
told_end None = None
told_end (Some s) = Some (told_of s)
