pub mod Outside  -- A state outside of all forms (R7RS 4.3, 5.3)
pub mod Ways  -- Ways to work on a unit of which some forms are kept (R7RS 5.1, 5.3)
pub mod Programs  -- A program of which some forms are kept, where what is local is forgotten behind each form's turn (R7RS 5)
