pub mod RuleLaws  -- The slots of rules
pub mod FormLaws  -- Marks one after another, and the locals that binders bind
pub mod HeldLaws  -- Which of some occurrences in order are those of tokens in a range
pub mod ReachLaws  -- The marks of units are those of the units in reach
pub mod ApartLaws  -- What is found first in one stretch after another, and that what agrees with nothing left out agrees whatever is
pub mod UnitLaws  -- The units of a program of the code from a place on, the forms of a unit, and their Errors
pub mod ListedLaws  -- Units are the same in their lists where the code says so, and the first that differ are those that it finds
pub mod ExportLaws  -- The names that exports are asked to have, where their external names stand, and exports compared one after another
pub mod ToldLaws  -- What is told of the meaning at a point, and whether an occurrence is one of some
pub mod BothLaws  -- A unit of both programs at a place of their lists
