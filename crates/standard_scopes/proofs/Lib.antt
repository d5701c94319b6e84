pub mod StandardNames  -- All standard names, gathered library by library
pub mod PreludeMacros  -- The macros of the prelude, added from the last to the first
pub mod Growing  -- What calls leave of a work adds up, and units stand in a work that has grown
