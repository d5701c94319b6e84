pub mod EntryOrigins  -- What holds of the places that spell entries holds of those that import sets give and units export, if it holds of new names too
pub mod Places  -- The places that spell what units import and export
pub mod LinkOrigins  -- Each place from which an identifier of a program takes its characters is the target of a link
pub mod ProgramSpelled  -- Places spell what the units of a program import and export, since each unit is worked on behind those that it imports
pub mod ClassMembers  -- A class is what links join to an occurrence
pub mod OpenedClasses  -- The class that a rename takes in open documents is by links alone
