pub mod Sets  -- What the import sets of the code are, and what a call on them answers (R7RS 5.2)
pub mod Given  -- What an import set gives, over the entries of the code
pub mod Seconds  -- The places of the second identifiers of the pairs that a set of the code renames by
pub mod GatheringSeen  -- What is gathered, as a list of entries and a list of names
pub mod Firsts  -- The first place of each name
pub mod Graphs  -- The units by their places, each with the places of what it imports; what is marked of them, and what is open
pub mod InTurn  -- The units in their turns, each after what it imports
pub mod Waiting  -- The units that are to be looked at, and the first of them that is open
