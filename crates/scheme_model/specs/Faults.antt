-- The faults of data by the numbers that callers know, each with the bytes that it is shown at.
use Rattle.std.specs.Prelude.{ℕ}
use Rattle.scheme_model.specs.Numbered.{Spot}

-- why a text is not read, and where
pub record Stop : Type 0 where
  pub number : ℕ
  pub start : ℕ
  pub end : ℕ

abbrev pub stop : ℕ → Spot → Stop
stop number t = record { number = number; start = t.start; end = t.end }

-- the text ends in a list, a vector or a bytevector, which begins there
abbrev pub open_list : Spot → Stop
open_list t = stop 5 t

-- a parenthesis closes nothing
abbrev pub stray_close : Spot → Stop
stray_close t = stop 6 t

-- a dot that may not stand there, or behind which not one datum stands
abbrev pub bad_dot : Spot → Stop
bad_dot t = stop 7 t

-- a token of a bytevector that is no numeral of a byte
abbrev pub bad_byte : Spot → Stop
bad_byte t = stop 8 t

-- more is open than may be
abbrev pub too_deep : Spot → Stop
too_deep t = stop 11 t

-- an abbreviation or `#;` without its datum
abbrev pub missing_datum : Spot → Stop
missing_datum t = stop 12 t
