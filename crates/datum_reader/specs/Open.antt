-- What is open while data are read from tokens, and how each token changes it (R7RS 7.1.2).
use Rattle.std.specs.Prelude.{ℕ, ◌+◌, ◌==◌, List, [], ◌∷◌, ◌++◌, length, Option, Some, None, Result, Ok, Err, nat_lt, if◌then◌else◌}
use Rattle.scheme_model.specs.Kinds.{TokenKind, Paren, VectorParen, BytesParen, Close, Dot, Skip, Marked, Atomic, Leaf, Name, Numeral, Quoted, Character, Truth, Token}
use Rattle.scheme_model.specs.Data.{spelled, implied, Datum, atom, list, vector, bytes, none, row, tail_of, place_of}
use Rattle.scheme_model.specs.Numbered.{Spot, Numbered, number_from, is_byte}
pub use Rattle.scheme_model.specs.Numbered.{at, between, up_to}
use Rattle.scheme_model.specs.Written.{max_open}
use Rattle.scheme_model.specs.Faults.{Stop, open_list, stray_close, bad_dot, bad_byte, too_deep, missing_datum}

-- what is open: a list, before or behind its dot, or behind its tail; a vector; a bytevector with its numerals so far; an
-- abbreviation; a datum that is skipped
pub data Opener : Type 0 where
  in_list : Opener
  dotted : (dot : Spot) → Opener
  ended : (dot : Spot) → Datum → Opener
  in_vector : Opener
  in_bytes : List (List ℕ) → Opener
  marked : Opener
  skipping : Opener

-- the same with its token, the data before it on its level, and how many are open with it; bytevectors aren't counted
pub record Frame : Type 0 where
  pub opener : Opener
  pub spot : Spot
  pub before : List Datum
  pub depth : ℕ

-- all that is open, innermost first, and the data so far on the innermost level
pub record State : Type 0 where
  pub stack : List Frame
  pub items : List Datum

abbrev pub state : List Datum → List Frame → State
state items fs = record { stack = fs; items = items }

abbrev pub depth_of : List Frame → ℕ
depth_of [] = 0
depth_of (f ∷ fs) = f.depth

abbrev pub reopened : Opener → Frame → Frame
reopened o f = record f { opener = o }

-- why no datum may begin there, if none may: behind a tail, and in a bytevector
abbrev pub refused_by : Opener → Spot → Option Stop
refused_by in_list t = None
refused_by (dotted dot) t = None
refused_by (ended dot d) t = Some (bad_dot dot)
refused_by in_vector t = None
refused_by (in_bytes bs) t = Some (bad_byte t)
refused_by marked t = None
refused_by skipping t = None

abbrev pub refused : List Frame → Spot → Option Stop
refused [] t = None
refused (f ∷ fs) t = refused_by f.opener t

abbrev pub unless : Option Stop → Result State Stop → Result State Stop
unless None r = r
unless (Some e) r = Err e

-- one more is open; its first data may be there already
abbrev pub pushed : Opener → ℕ → Spot → List Datum → State → State
pushed o depth t items s = state items (record { opener = o; spot = t; before = s.items; depth = depth } ∷ s.stack)

abbrev pub opened : Opener → Spot → List Datum → State → Result State Stop
opened o t items s =
    if nat_lt (depth_of s.stack) max_open then Ok (pushed o (depth_of s.stack + 1) t items s) else Err (too_deep t)

-- a datum is complete: an abbreviation with it is one too, `#;` drops it, and a list behind its dot has its tail
abbrev pub completed_by : Opener → Frame → Datum → List Datum → List Frame → State → State
completed_by in_list f d items fs more = state (items ++ d ∷ []) (f ∷ fs)
completed_by (dotted dot) f d items fs more = state items (reopened (ended dot d) f ∷ fs)
completed_by (ended dot t) f d items fs more = state (items ++ d ∷ []) (f ∷ fs)
completed_by in_vector f d items fs more = state (items ++ d ∷ []) (f ∷ fs)
completed_by (in_bytes bs) f d items fs more = state (items ++ d ∷ []) (f ∷ fs)
completed_by marked f d items fs more = more
completed_by skipping f d items fs more = state f.before fs

abbrev pub abbreviation : Spot → List Datum → Datum → Datum
abbreviation t items d = list (up_to t (place_of d)) (row (items ++ d ∷ []) none)

abbrev pub completed : Datum → List Datum → List Frame → State
completed d items [] = state (items ++ d ∷ []) []
completed d items (f ∷ fs) = completed_by f.opener f d items fs (completed (abbreviation f.spot items d) f.before fs)

-- a parenthesis closes the innermost
abbrev pub closed_by : Opener → Spot → Spot → List Datum → Result Datum Stop
closed_by in_list first last items = Ok (list (between first last) (row items none))
closed_by (dotted dot) first last items = Err (bad_dot dot)
closed_by (ended dot d) first last items = Ok (list (between first last) (row items (tail_of d)))
closed_by in_vector first last items = Ok (vector (between first last) (row items none))
closed_by (in_bytes bs) first last items = Ok (bytes (between first last) bs)
closed_by marked first last items = Err (missing_datum first)
closed_by skipping first last items = Err (missing_datum first)

abbrev pub completes : Result Datum Stop → List Datum → List Frame → Result State Stop
completes (Ok d) items fs = Ok (completed d items fs)
completes (Err e) items fs = Err e

abbrev pub closed : Spot → List Datum → List Frame → Result State Stop
closed t items [] = Err (stray_close t)
closed t items (f ∷ fs) = completes (closed_by f.opener f.spot t items) f.before fs

-- a dot stands behind a part of a list, once
abbrev pub dotted_by : Opener → Spot → Frame → List Datum → List Frame → Result State Stop
dotted_by in_list t f items fs = if length items == 0 then Err (bad_dot t) else Ok (state items (reopened (dotted t) f ∷ fs))
dotted_by (dotted dot) t f items fs = Err (bad_dot t)
dotted_by (ended dot d) t f items fs = Err (bad_dot t)
dotted_by in_vector t f items fs = Err (bad_dot t)
dotted_by (in_bytes bs) t f items fs = Err (bad_byte t)
dotted_by marked t f items fs = Err (bad_dot t)
dotted_by skipping t f items fs = Err (bad_dot t)

abbrev pub dots : Spot → List Datum → List Frame → Result State Stop
dots t items [] = Err (bad_dot t)
dots t items (f ∷ fs) = dotted_by f.opener t f items fs

-- the numeral of a byte
abbrev pub byte_of : Leaf → Option (List ℕ)
byte_of (Name name bars) = None
byte_of (Numeral text) = if is_byte 0 text then Some text else None
byte_of (Quoted text) = None
byte_of (Character c) = None
byte_of (Truth b) = None

abbrev pub byte_added : Option (List ℕ) → List (List ℕ) → Spot → Frame → List Datum → List Frame → Result State Stop
byte_added None bs t f items fs = Err (bad_byte t)
byte_added (Some text) bs t f items fs = Ok (state items (reopened (in_bytes (bs ++ text ∷ [])) f ∷ fs))

-- an atom: in a bytevector a numeral, and elsewhere a datum
abbrev pub whole : Leaf → Spot → List Datum → List Frame → Result State Stop
whole leaf t items fs = Ok (completed (atom (at t) (spelled leaf)) items fs)

abbrev pub atoms_by : Opener → Leaf → Spot → Frame → List Datum → List Frame → Result State Stop
atoms_by in_list leaf t f items fs = whole leaf t items (f ∷ fs)
atoms_by (dotted dot) leaf t f items fs = whole leaf t items (f ∷ fs)
atoms_by (ended dot d) leaf t f items fs = Err (bad_dot dot)
atoms_by in_vector leaf t f items fs = whole leaf t items (f ∷ fs)
atoms_by (in_bytes bs) leaf t f items fs = byte_added (byte_of leaf) bs t f items fs
atoms_by marked leaf t f items fs = whole leaf t items (f ∷ fs)
atoms_by skipping leaf t f items fs = whole leaf t items (f ∷ fs)

abbrev pub atoms : Leaf → Spot → List Datum → List Frame → Result State Stop
atoms leaf t items [] = whole leaf t items []
atoms leaf t items (f ∷ fs) = atoms_by f.opener leaf t f items fs

-- what is open after one token more, or why it can't go on
abbrev pub after : TokenKind → Spot → State → Result State Stop
after Paren t s = unless (refused s.stack t) (opened in_list t [] s)
after VectorParen t s = unless (refused s.stack t) (opened in_vector t [] s)
after BytesParen t s = unless (refused s.stack t) (Ok (pushed (in_bytes []) (depth_of s.stack) t [] s))
after Close t s = closed t s.items s.stack
after Dot t s = dots t s.items s.stack
after Skip t s = opened skipping t [] s
after (Marked mark) t s = unless (refused s.stack t) (opened marked t (atom (at t) (implied mark) ∷ []) s)
after (Atomic leaf) t s = atoms leaf t s.items s.stack

abbrev pub goes_on : Result State Stop → Numbered → Result State Stop
goes_on (Ok s) t = after t.kind t.spot s
goes_on (Err e) t = Err e

abbrev pub after_all : Result State Stop → List Numbered → Result State Stop
after_all r [] = r
after_all r (t ∷ ts) = after_all (goes_on r t) ts

-- at the end nothing is open
abbrev pub left_open : Opener → Spot → Stop
left_open in_list t = open_list t
left_open (dotted dot) t = open_list t
left_open (ended dot d) t = open_list t
left_open in_vector t = open_list t
left_open (in_bytes bs) t = open_list t
left_open marked t = missing_datum t
left_open skipping t = missing_datum t

abbrev pub finished : List Datum → List Frame → Result (List Datum) Stop
finished items [] = Ok items
finished items (f ∷ fs) = Err (left_open f.opener f.spot)

abbrev pub ends : Result State Stop → Option Stop → Result (List Datum) Stop
ends (Ok s) None = finished s.items s.stack
ends (Ok s) (Some f) = Err f
ends (Err e) end = Err e

-- the data that tokens form, behind which their text ends or a fault of tokens comes; or the first fault
abbrev pub read : List Token → Option Stop → Result (List Datum) Stop
read ts end = ends (after_all (Ok (state [] [])) (number_from 0 ts)) end
