pub mod Mentioned  -- Which units the questions of a form mention (R7RS 4.3, 5.2)
pub mod Unchanged  -- Surroundings that are the same as far as some units go (R7RS 5.2, 5.3)
