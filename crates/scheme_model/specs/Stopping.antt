-- Where the reading of a text stops (R7RS 7.1.2): at the first token with which no data can go on, or at the end.
use Rattle.std.specs.Prelude.{◌≡◌, ◌≤◌, ℕ, List, [], ◌∷◌, ◌++◌, Option, Some, None, nat_lt, if◌then◌else◌}
use Rattle.scheme_model.specs.Kinds.{TokenKind, Paren, VectorParen, BytesParen, Close, Dot, Skip, Marked, Atomic, Leaf, Name, Numeral, Quoted, Character, Truth, Token}
use Rattle.scheme_model.specs.Data.{Datum}
use Rattle.scheme_model.specs.Numbered.{Spot, Numbered, number_from, is_byte}
use Rattle.scheme_model.specs.Faults.{Stop, open_list, stray_close, bad_dot, bad_byte, too_deep, missing_datum}
use Rattle.scheme_model.specs.Written.{Parts, parts_tokens, max_open, parts_depth, parts_meant}
use Rattle.scheme_model.specs.Begun.{Row, start, more, listing, behind_dot, behind_tail, vectoring, byting, behind_mark, behind_skip, Begun, top, inside, begun_tokens, open_depth, IsSound}

-- ---- which tokens are data

-- the tokens are data as they are written, of which no more are open than may be
abbrev pub AreData : List Numbered → Type 0
AreData ts = (written : Parts) × (parts_tokens written [] ≡ ts) × (parts_depth written ≤ max_open)

-- with some tokens behind them they are
abbrev pub CanGoOn : List Numbered → Type 0
CanGoOn ts = (more_tokens : List Numbered) × AreData (ts ++ more_tokens)

-- these data are a text's, whose tokens `reads` tells, and how they end: with the text, or at a fault of tokens
pub record IsReading (reads : List Token → Option Stop → Type 0) (ds : List Datum) : Type 0 where
  pub tokens : List Token
  pub written : Parts
  pub spelled : reads tokens None
  pub formed : parts_tokens written [] ≡ number_from 0 tokens
  pub shallow : parts_depth written ≤ max_open
  pub means : ds ≡ parts_meant written

-- ---- why a token is refused

-- no more can be open
abbrev pub unless_deep : ℕ → Spot → Option Stop
unless_deep depth t = if nat_lt depth max_open then None else Some (too_deep t)

abbrev pub first_of : Option Stop → Option Stop → Option Stop
first_of None o = o
first_of (Some e) o = Some e

-- a datum may not begin behind a tail, and not in a bytevector
abbrev pub datum_refused : Begun → Spot → Option Stop
datum_refused (top r g) t = None
datum_refused (inside b s (listing r g)) t = None
datum_refused (inside b s (behind_dot g w ps dot h)) t = None
datum_refused (inside b s (behind_tail g w ps dot h v i)) t = Some (bad_dot dot)
datum_refused (inside b s (vectoring r g)) t = None
datum_refused (inside b s (byting r g)) t = Some (bad_byte t)
datum_refused (inside b s (behind_mark mark g)) t = None
datum_refused (inside b s (behind_skip g)) t = None

-- a parenthesis closes a list that isn't behind its dot, a vector or a bytevector
abbrev pub close_refused : Begun → Spot → Option Stop
close_refused (top r g) t = Some (stray_close t)
close_refused (inside b s (listing r g)) t = None
close_refused (inside b s (behind_dot g w ps dot h)) t = Some (bad_dot dot)
close_refused (inside b s (behind_tail g w ps dot h v i)) t = None
close_refused (inside b s (vectoring r g)) t = None
close_refused (inside b s (byting r g)) t = None
close_refused (inside b s (behind_mark mark g)) t = Some (missing_datum s)
close_refused (inside b s (behind_skip g)) t = Some (missing_datum s)

-- a dot stands behind a part of a list, once
abbrev pub unless_part : Row → Spot → Option Stop
unless_part start t = Some (bad_dot t)
unless_part (more r g w) t = None

abbrev pub dot_refused : Begun → Spot → Option Stop
dot_refused (top r g) t = Some (bad_dot t)
dot_refused (inside b s (listing r g)) t = unless_part r t
dot_refused (inside b s (behind_dot g w ps dot h)) t = Some (bad_dot t)
dot_refused (inside b s (behind_tail g w ps dot h v i)) t = Some (bad_dot t)
dot_refused (inside b s (vectoring r g)) t = Some (bad_dot t)
dot_refused (inside b s (byting r g)) t = Some (bad_byte t)
dot_refused (inside b s (behind_mark mark g)) t = Some (bad_dot t)
dot_refused (inside b s (behind_skip g)) t = Some (bad_dot t)

-- a bytevector has numerals of bytes alone
abbrev pub unless_byte : Leaf → Spot → Option Stop
unless_byte (Name name bars) t = Some (bad_byte t)
unless_byte (Numeral text) t = if is_byte 0 text then None else Some (bad_byte t)
unless_byte (Quoted text) t = Some (bad_byte t)
unless_byte (Character c) t = Some (bad_byte t)
unless_byte (Truth v) t = Some (bad_byte t)

abbrev pub atom_refused : Begun → Leaf → Spot → Option Stop
atom_refused (top r g) leaf t = None
atom_refused (inside b s (listing r g)) leaf t = None
atom_refused (inside b s (behind_dot g w ps dot h)) leaf t = None
atom_refused (inside b s (behind_tail g w ps dot h v i)) leaf t = Some (bad_dot dot)
atom_refused (inside b s (vectoring r g)) leaf t = None
atom_refused (inside b s (byting r g)) leaf t = unless_byte leaf t
atom_refused (inside b s (behind_mark mark g)) leaf t = None
atom_refused (inside b s (behind_skip g)) leaf t = None

-- why a token may not stand behind what is written so far, if it may not
abbrev pub refused : Begun → TokenKind → Spot → Option Stop
refused b Paren t = first_of (datum_refused b t) (unless_deep (open_depth b) t)
refused b VectorParen t = first_of (datum_refused b t) (unless_deep (open_depth b) t)
refused b BytesParen t = datum_refused b t
refused b Close t = close_refused b t
refused b Dot t = dot_refused b t
refused b Skip t = unless_deep (open_depth b) t
refused b (Marked mark) t = first_of (datum_refused b t) (unless_deep (open_depth b) t)
refused b (Atomic leaf) t = atom_refused b leaf t

-- why a text may not end there, if it may not
abbrev pub end_refused : Begun → Option Stop
end_refused (top r g) = None
end_refused (inside b s (listing r g)) = Some (open_list s)
end_refused (inside b s (behind_dot g w ps dot h)) = Some (open_list s)
end_refused (inside b s (behind_tail g w ps dot h v i)) = Some (open_list s)
end_refused (inside b s (vectoring r g)) = Some (open_list s)
end_refused (inside b s (byting r g)) = Some (open_list s)
end_refused (inside b s (behind_mark mark g)) = Some (missing_datum s)
end_refused (inside b s (behind_skip g)) = Some (missing_datum s)

-- ---- where a text stops

-- a token is refused: those before it can go on to data, and with it they can't
pub record IsRefused (before : List Numbered) (t : Numbered) (fault : Stop) : Type 0 where
  pub goes_on : CanGoOn before
  pub stops : ¬ CanGoOn (before ++ t ∷ [])
  pub begun : Begun
  pub sound : IsSound begun
  pub written : begun_tokens begun [] ≡ before
  pub because : refused begun t.kind t.spot ≡ Some fault

-- all tokens can go on, and aren't data
pub record IsUnfinished (ts : List Numbered) (fault : Stop) : Type 0 where
  pub goes_on : CanGoOn ts
  pub stops : ¬ AreData ts
  pub begun : Begun
  pub sound : IsSound begun
  pub written : begun_tokens begun [] ≡ ts
  pub because : end_refused begun ≡ Some fault

-- a text, whose tokens `reads` tells, stops: at a token that is refused; at its end; or at a fault of tokens, behind tokens that can go on
pub data StopsAt (reads : List Token → Option Stop → Type 0) : Stop → Type 0 where
  at_token : (ts : List Token) (end : Option Stop) (before : List Numbered) (t : Numbered) (behind : List Numbered) (fault : Stop) →
      reads ts end → number_from 0 ts ≡ before ++ t ∷ behind → IsRefused before t fault → StopsAt reads fault
  at_end : (ts : List Token) (fault : Stop) → reads ts None → IsUnfinished (number_from 0 ts) fault → StopsAt reads fault
  at_fault : (ts : List Token) (fault : Stop) → reads ts (Some fault) → CanGoOn (number_from 0 ts) → StopsAt reads fault
