pub mod Forms  -- What a core form is read as (R7RS 4.1, 4.2.1, 4.2.8, 4.3, 5.3, 5.5)
pub mod Parts  -- What the parts of a form that is read stand for
pub mod Marks  -- The marks of a quasiquotation by number, and what is gone through of its datum (R7RS 4.2.8)
pub mod Ends  -- How a reading of a core form ends
pub mod Named  -- What nodes of a region may name of that which is read
pub mod Steps  -- Readings of parts of core forms, by the readers of the definitions
pub mod Numbers  -- Names by number
