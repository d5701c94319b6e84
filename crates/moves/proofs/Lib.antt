pub mod TableLaws  -- Tables of new numbers, and the way back from them
pub mod Copies  -- Tables that are made again, thing by thing
pub mod EntryLaws  -- Entries under new numbers stand for identifiers under new numbers
pub mod NodeLaws  -- Nodes under new numbers
pub mod StandLaws  -- What stands in a work under new numbers
