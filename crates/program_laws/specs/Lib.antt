pub mod Circles  -- Units that import one another (R7RS 5.6)
pub mod Turns  -- What bounds an expansion, and forms whose expansion comes to its end
pub mod Texts  -- Documents that were read from texts
pub mod Parts  -- What is left of the program of a text that others include (R7RS 4.1.7)
