pub mod Asking  -- What the workspace answers is the answer to a session's question
pub mod Renaming  -- What the workspace answers to a rename is the reply of a session
pub mod Renamed  -- The answer to a rename is the one message that is sent
