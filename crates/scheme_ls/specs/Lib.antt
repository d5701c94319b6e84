pub mod ReplayOutcome  -- How `replay FILE` ends
pub mod Wording  -- The text that the program says by itself
pub mod RunOutcome  -- How a run ends, by the command that its words ask for
