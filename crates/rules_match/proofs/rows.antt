-- The definitions on worked rows
mod MatchRows
