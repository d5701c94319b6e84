-- The definitions on worked rows
pub mod CancelledRows
pub mod AheadRows
pub mod BodyRows
