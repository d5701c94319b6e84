pub mod Joining  -- Entries that are put together one by one
pub mod SetsGiven  -- What the import sets of a unit come to (R7RS 5.2, 5.6.1), as the code keeps it
pub mod NamesUsed  -- The identifiers of imports and exports that were found so far (R7RS 5.2, 5.6.1)
pub mod Defined  -- What forms define, by the numbers of its identifiers
pub mod Collected  -- The units of a program as they are put together, each by its head and what it came to
pub mod EntriesMeant  -- Entries of the code that stand for some, and each name once (R7RS 5.2, 5.6.1)
pub mod Imports  -- What an import set of a unit comes to, as the code keeps it
pub mod Hiding  -- What is found of a definition that hides an import (R7RS 5.2)
pub mod Whole  -- What a unit came to, put together of its forms and the rest
