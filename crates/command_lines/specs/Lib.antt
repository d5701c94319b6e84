pub mod Places  -- How a position is written (LSP 3.17, Position)
pub mod Diagnostics  -- The lines of diagnostics (LSP 3.17, Diagnostic)
pub mod Edits  -- The lines of edits and of refusals (LSP 3.17, TextEdit)
pub mod Counts  -- The lines of counts
