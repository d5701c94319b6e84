pub mod Steps  -- What steps of a text give, one after another
pub mod Shapes  -- The shapes of declarations, as the code has them (R7RS 5.6.1)
pub mod Choices  -- The clauses of `cond-expand` as they are read (R7RS 4.2.1, 5.6.1)
pub mod Planned  -- What the plans of texts give
pub mod Counted  -- How much is given
pub mod Losses  -- The strings that are lost where texts give steps
pub mod Tables  -- The texts that documents include, by their places in a table
pub mod Built  -- Tables of the texts that documents include
pub mod Listed  -- What units give, as it is written out
