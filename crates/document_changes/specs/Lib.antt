pub mod RefusedChanges  -- Whether a document is kept whose change is refused
pub mod Events  -- Events of the workspace as events of its store (LSP 3.17, text synchronisation)
pub mod Parts  -- Which open documents are parts of others, and which of them a string means (R7RS 4.1.7, 5.6.1)
pub mod Edited  -- The texts of open documents once they are edited (LSP 3.17, TextEdit)
