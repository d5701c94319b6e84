-- What is open in the code while data are read, and what answers of its steps say.
use Rattle.std.specs.Prelude.{◌≡◌, ℕ, List, [], ◌∷◌, Vec, map, Option, Some, None, Result, Ok, Err}
use Rattle.std.specs.declared.alloc.Global.{Global}
use Rattle.std.specs.Str.{chars}
use Rattle.scheme_tokens.specs.declared.fault.ReadFault as told
use Rattle.scheme_tokens.specs.declared.fault.ReadFault.TheVariants as faults
use Rattle.datum_reader.specs.declared.datum.Datum as code
use Rattle.datum_reader.specs.declared.tail.Rest as code_rest
use Rattle.datum_reader.specs.declared.tail.Tail as code_tail
use Rattle.datum_reader.specs.declared.tail.Tail.TheVariants as tails
use Rattle.datum_reader.specs.declared.open.Spot as code_spot
use Rattle.datum_reader.specs.declared.open.Opener as code_opener
use Rattle.datum_reader.specs.declared.open.Opener.TheVariants as openers
use Rattle.datum_reader.specs.declared.open.Frame as code_frame
use Rattle.datum_reader.specs.declared.open.State as code_state
use Rattle.scheme_model.specs.Data.{Datum, list, Data, row}
use Rattle.scheme_model.specs.Numbered.{Spot}
use Rattle.scheme_model.specs.Faults.{Stop, bad_byte}
use Rattle.datum_reader.specs.Open.{Opener, in_list, dotted, ended, in_vector, in_bytes, marked, skipping, Frame, State}
use Rattle.datum_reader.specs.Views.{placed, datum_of, data_of, end_data, told_of}

-- runs of parts before what ends them, the last run first
abbrev pub chained : Data → List (Vec code.Datum Global) → Data
chained end [] = end
chained end (v ∷ vs) = chained (row (data_of v.items) end) vs

abbrev pub rest_data : code_rest.Rest → Data
rest_data r = chained (end_data r.end) r.runs.items

-- the datum that a tail stands for
abbrev pub tail_datum : code_tail.Tail → Datum
tail_datum (tails.Datum d) = datum_of d
tail_datum (tails.List c) = list (placed c.first c.last c.span) (row (data_of c.parts.items) (rest_data c.rest))

abbrev pub spot_of : code_spot.Spot → Spot
spot_of t = record { number = t.number; start = t.span.start; end = t.span.end }

abbrev pub opener_of : code_opener.Opener → Opener
opener_of openers.List = in_list
opener_of (openers.Dotted dot) = dotted (spot_of dot)
opener_of (openers.Ended dot t) = ended (spot_of dot) (tail_datum t.value)
opener_of openers.Vector = in_vector
opener_of (openers.Bytes texts) = in_bytes (map chars texts.items)
opener_of openers.Mark = marked
opener_of openers.Skip = skipping

abbrev pub frame_of : code_frame.Frame → Frame
frame_of f = record { opener = opener_of f.opener; spot = spot_of f.spot; before = data_of f.before.items; depth = f.depth }

-- the code keeps the outermost first
abbrev pub stacked : List Frame → List code_frame.Frame → List Frame
stacked below [] = below
stacked below (f ∷ fs) = stacked (frame_of f ∷ below) fs

abbrev pub stack_of : List code_frame.Frame → List Frame
stack_of fs = stacked [] fs

abbrev pub state_of : code_state.State → State
state_of s = record { stack = stack_of s.stack.items; items = data_of s.items.items }

-- this fault is the answer, unless memory ran out
abbrev pub Fails : {A : Type 0} → told.ReadFault → Result A Stop → Type 0
Fails faults.Memory r = Unit {0}
Fails (faults.At number span) r = r ≡ Err (record { number = number; start = span.start; end = span.end })

-- what a call answered, seen by view, is what the definition gives, unless memory ran out
abbrev pub Gives : {X A : Type 0} → (X → A) → Result X told.ReadFault → Result A Stop → Type 0
Gives view (Ok x) r = r ≡ Ok (view x)
Gives view (Err e) r = Fails e r

-- the same of a call that changed the state
abbrev pub Moves : {X : Type 0} → State → Result X told.ReadFault → Result State Stop → Type 0
Moves s (Ok x) r = r ≡ Ok s
Moves s (Err e) r = Fails e r

-- why no datum may begin, if none may
abbrev pub Refuses : Result Unit told.ReadFault → Option Stop → Type 0
Refuses (Ok x) o = o ≡ None
Refuses (Err faults.Memory) o = ⊥
Refuses (Err (faults.At number span)) o = o ≡ Some (record { number = number; start = span.start; end = span.end })

-- the numeral of a byte, if it is one
abbrev pub IsNumeral : Result (List ℕ) told.ReadFault → Option (List ℕ) → Spot → Type 0
IsNumeral (Ok text) o t = o ≡ Some (chars text)
IsNumeral (Err e) o t = (o ≡ None) × (e ≡ told_of (bad_byte t))
