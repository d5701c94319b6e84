pub mod Expansions  -- A program with the trees that it is over, and the index of it
pub mod ProgramOfTexts  -- The program of the open documents, as the code has it (R7RS 5)
pub mod State  -- A workspace as contracts see it
pub mod Indexed  -- The index that is kept or was made
