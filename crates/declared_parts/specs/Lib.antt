pub mod Parts  -- What is kept of a form that was gone through (R7RS 5.3)
pub mod Again  -- A form that was gone through in other surroundings is declared again where its turn comes (R7RS 5.3)
pub mod Undone  -- Definitions of a unit that are taken back (R7RS 5.3)
pub mod Going  -- How far a form is declared again (R7RS 5.3)
pub mod Editions  -- A macro of the open unit, beside a copy of it
pub mod Stood  -- The macros of definitions that stood
