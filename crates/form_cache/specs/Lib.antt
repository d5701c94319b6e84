pub mod Copied  -- What a macro use tells, wherever it lies in memory
pub mod Entries  -- What is kept of a form stands for what came of it in some surroundings (R7RS 5.1, 5.3)
pub mod Cached  -- What is kept, by unit and form
pub mod Shifted  -- What is kept of a form, where its unit has another number of definitions before the form
