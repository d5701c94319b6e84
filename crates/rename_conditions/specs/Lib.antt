pub mod Readers  -- What renames take of the rules of tokens, data and URLs (R7RS 7.1.1, 7.1.2)
pub mod Opened  -- The open documents with their program, and what a rename of an identifier comes to in them
pub mod Renames  -- What a rename of an identifier edits, or why it is refused
pub mod Accepted  -- When a rename is accepted
