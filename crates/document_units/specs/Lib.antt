pub mod Turned  -- The units in their turns where some are broken, and what is expanded by then (R7RS 5.6)
pub mod KnownNames  -- The libraries that there are, by the texts of their names (R7RS 4.2.1, 5.6.1)
pub mod Identifiers  -- The identifiers of units as the code keeps them, by the numbers of their tokens
pub mod Sound  -- The units as they are listed
pub mod Listing  -- What units are read by
pub mod UnitsListed  -- The units of the documents as they are listed (R7RS 5.1, 5.6)
