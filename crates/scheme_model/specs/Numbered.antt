-- Tokens by their numbers, the places of data, and the numerals of bytevectors (R7RS 7.1.2).
use Rattle.std.specs.Prelude.{ℕ, suc, ◌+◌, ◌*◌, Bool, true, List, [], ◌∷◌, nat_lt, if◌then◌else◌}
use Rattle.std.specs.Char.{is_ascii_digit, digit_value}
use Rattle.scheme_model.specs.Kinds.{TokenKind, Token}
use Rattle.scheme_model.specs.Data.{Place}

-- a token's number in its text, and its bytes
pub record Spot : Type 0 where
  pub number : ℕ
  pub start : ℕ
  pub end : ℕ

pub record Numbered : Type 0 where
  pub spot : Spot
  pub kind : TokenKind

abbrev pub numbered : ℕ → Token → Numbered
numbered n t = record { spot = record { number = n; start = t.start; end = t.end }; kind = t.kind }

-- tokens with their numbers, from a number on
abbrev pub number_from : ℕ → List Token → List Numbered
number_from n [] = []
number_from n (t ∷ ts) = numbered n t ∷ number_from (suc n) ts

-- one token's place, and from one up to another
abbrev pub at : Spot → Place
at t = record { first = t.number; last = t.number; start = t.start; end = t.end }

abbrev pub between : Spot → Spot → Place
between t u = record { first = t.number; last = u.number; start = t.start; end = u.end }

-- a mark's token up to the end of its datum
abbrev pub up_to : Spot → Place → Place
up_to t p = record { first = t.number; last = p.last; start = t.start; end = p.end }

-- a numeral that may stand in a bytevector: if its characters are decimal digits, behind those that write a number, it is below 256
abbrev pub is_byte : ℕ → List ℕ → Bool
is_byte n [] = nat_lt n 256
is_byte n (c ∷ cs) = if is_ascii_digit c then is_byte (10 * n + digit_value c) cs else true
