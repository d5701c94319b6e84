pub mod Reading  -- How readings are put together
pub mod Lists  -- Rows by their first tree, and lists by their tails
pub mod Words  -- Leaves that are identifiers and texts
pub mod Distinct  -- Names by number
pub mod Marking  -- Marks by number, one after another
pub mod Holes  -- What is unquoted in a datum, part by part
pub mod HolePlaces  -- The places of holes are those of the definition
pub mod Finding  -- What a walk through a datum may go into
mod FormRows  -- Some forms, and what they are read as
pub mod Fields  -- A field by its names
pub mod Naming  -- Trees that may be named
