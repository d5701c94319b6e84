pub mod Passed  -- How the forms of a body, or a form of a unit, are gone through in the code
pub mod CoreSteps  -- What is done with a core form as an expression, once it was read (R7RS 4.1, 4.2)
pub mod Ready  -- How an expression is read in the code, up to its parts that are to be expanded (R7RS 4.1, 4.2)
pub mod Bodies  -- Bodies and local macros in the code (R7RS 4.3.1, 5.3.2)
pub mod Expanded  -- What the parts of expressions demand in the code as they are expanded, and what becomes of them (R7RS 4.1, 4.2)
pub mod UnitNotes  -- What the calls of this crate note (R7RS 5.1, 5.3)
