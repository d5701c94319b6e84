-- The definitions on worked rows
pub mod MeantRows
