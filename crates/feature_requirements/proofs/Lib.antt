pub mod JudgeLaws  -- Requirements and the names of libraries as they are read
pub mod ChoiceLaws  -- The clauses of a `cond-expand`
