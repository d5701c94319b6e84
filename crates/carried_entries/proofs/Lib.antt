pub mod SamePrograms  -- A form that goes on is one of a program before and after, or of none
pub mod EntriesGoOn  -- The entry of a carried form goes on under the new numbers
pub mod EntriesLeft  -- Each form that goes on has an entry that the program before left
