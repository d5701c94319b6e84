pub mod Walks  -- What two programs are compared by
pub mod SameProgram  -- When two programs are the same up to the names that were asked for
pub mod Reach  -- The units that a change of some occurrences reaches
pub mod Difference  -- The first place at which two programs aren't the same, and what stands there before and after
pub mod Bound  -- What the laws of comparison ask
