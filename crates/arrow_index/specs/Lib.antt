pub mod Binders  -- Where definitions of units stand, and the binders of pairs that point to an occurrence
pub mod Links  -- What links of the code say, and when they are those of a program
pub mod Classes  -- Classes of occurrences
pub mod Index  -- What an index is
pub mod Keywords  -- Where the keywords of units of the code stand
