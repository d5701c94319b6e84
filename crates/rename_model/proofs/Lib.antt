pub mod SameLaws  -- No two points differ exactly where all agree; what is bound agrees with itself; and agreement goes both ways round
pub mod SameShown  -- Comparisons of programs in the notation of rows
pub mod rows  -- The definitions on worked rows
