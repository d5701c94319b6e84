-- The definitions on worked rows
pub mod DifferenceRows
pub mod RenameRows
pub mod RenamedPartRows
pub mod HeldRows
