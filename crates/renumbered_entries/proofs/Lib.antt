pub mod Definitions  -- What a form defines in its unit is of that unit, and under other numbers it stands for what it stood for
pub mod EntryMoves  -- An entry stands under other numbers for what it stood for
pub mod TreesBack  -- By the way back numbers, trees and rules are what they were
pub mod CoresBack  -- By the way back cores, and what forms set aside and come to, are what they were
pub mod EntriesBack  -- By the way back what is kept of a form and what was around it are what they were, and so an entry is one
