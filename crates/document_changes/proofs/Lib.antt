pub mod AfterLaws  -- What an event left and why it was refused, by what the store's call answered
pub mod LeavesLaws  -- Events that are refused and leave the texts
pub mod OthersLaws  -- Documents other than the one of an event stay, and so do their lists
pub mod PartMarks  -- The marks of open documents that are parts, and the documents that their strings mean
pub mod EditedLaws  -- Edited documents stand in the order of their uris, as those before
