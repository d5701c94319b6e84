-- Why a text is no text of tokens, and where that is shown.
use Rattle.std.specs.Prelude.{ℕ}

-- why no token goes on
pub data Fault : Type 0 where
  bad_token : Fault
  open_string : Fault
  open_bar : Fault
  open_comment : Fault
  label : Fault
  directive : Fault

-- a fault and the bytes that it is shown at
pub record FaultAt : Type 0 where
  pub fault : Fault
  pub start : ℕ
  pub end : ℕ
