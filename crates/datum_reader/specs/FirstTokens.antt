-- The bytes of the first tokens of data.
use Rattle.std.specs.Prelude.{ℕ, ◌+◌, min}
use Rattle.ls_base.specs.declared.places.Span.{Span}
use Rattle.scheme_model.specs.Data.{Place, spelled, implied, Datum, atom, list, vector, bytes, Data, none, part, tail}

-- the bytes of a place
abbrev pub span_of : Place → Span
span_of p = record { start = p.start; end = p.end }

-- so many bytes at the beginning of a span
abbrev pub opening : ℕ → Span → Span
opening width s = record { start = s.start; end = min (s.start + width) s.end }

-- a parenthesis, or the mark of an abbreviation
abbrev pub list_token : Span → Data → Span
list_token s none = opening 1 s
list_token s (tail d) = opening 1 s
list_token s (part (atom q (implied mark)) ds) = span_of q
list_token s (part (atom q (spelled leaf)) ds) = opening 1 s
list_token s (part (list q es) ds) = opening 1 s
list_token s (part (vector q es) ds) = opening 1 s
list_token s (part (bytes q bs) ds) = opening 1 s

-- the bytes of the first token: an atom's, `(` or a mark, `#(`, `#u8(`
abbrev pub first_token : Datum → Span
first_token (atom p a) = span_of p
first_token (list p ds) = list_token (span_of p) ds
first_token (vector p ds) = opening 2 (span_of p)
first_token (bytes p bs) = opening 4 (span_of p)
