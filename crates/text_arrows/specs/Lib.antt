pub mod Wording  -- The text that `arrows` says by itself
pub mod ArrowsStatuses  -- The statuses of the command `arrows`
pub mod TextReading  -- What was read of a source that gives a text
pub mod Printed  -- The bytes that are printed
pub mod Alone  -- A text alone in a workspace, as the document `input`, and what is told of it
pub mod CountedText  -- The macro uses that are counted of a text alone (R7RS 4.3)
pub mod ArrowsOutcome  -- How the command `arrows` ends, and why
