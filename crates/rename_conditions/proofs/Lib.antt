pub mod ReadLaws  -- Each text reads in one way, or doesn't read
pub mod ReaderLaws  -- There is one reader
pub mod AcceptedLaws  -- A rename is accepted exactly where all its conditions hold
pub mod LongestText  -- The longest text that a rename may leave, and one of a byte more
pub mod RenameShown  -- Renames in the notation of rows, which tell of a place where it starts
pub mod rows  -- The definitions on worked rows
