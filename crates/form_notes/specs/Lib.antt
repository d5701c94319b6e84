pub mod Noted  -- What is noted of what a form asks (R7RS 4.3, 5.3), by what the part of it that is at work began with and has defined since
pub mod Standing  -- What the notes of the code stand for
