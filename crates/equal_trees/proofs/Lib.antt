pub mod EqualLaws  -- Trees and rules are the same where what the code has of them is
