pub mod KeptForms  -- A unit of which some forms are kept (R7RS 5.1, 5.3)
pub mod Carried  -- Which forms of a unit may be kept
pub mod Worked  -- How many macro uses are worked in a unit of which some forms are kept
pub mod KeptPrograms  -- A program of which some forms are kept (R7RS 5)
