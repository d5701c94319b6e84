pub mod Maps  -- The finite map that the entries of an ordered map make
pub mod Places  -- Lists by their places, and what is found in them
pub mod Orders  -- The order of the numbers of macro uses, and finite maps by numbers
pub mod Changes  -- What calls make of an environment, and that it stays sound
pub mod Locals  -- The local scopes from a scope outwards, one by one
pub mod Walk  -- The walk from an identifier to what it means, by way of the uses that inserted it
pub mod StandingLaws  -- What an environment stands for after a change
pub mod Added  -- An environment with a binding more, where one is given
pub mod Fields  -- What the fields of an environment answer
pub mod Reached  -- The scope that a walk through uses is in
pub mod GrowthLaws  -- What an environment stands for where the tables of symbols and identifiers have grown; and locals of one form
pub mod AroundLaws  -- Which scopes are around which
pub mod Marking  -- Marks in a row
pub mod MarkLaws  -- What is marked of an environment, and that no scope binds what isn't
pub mod Forgotten  -- An environment without the scopes from a number on
pub mod PutBack  -- A scope binds an identifier to what it bound it to before, or to nothing
