pub mod PartsRead  -- How parts of declarations are read
pub mod Chosen  -- Requirements by their words, and the clauses of `cond-expand` (R7RS 4.2.1)
pub mod Weights  -- How heavy data are
