pub mod Begins  -- What a form of a unit may begin in (R7RS 5.1)
