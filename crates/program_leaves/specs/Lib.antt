pub mod Adds  -- What stands for one thing each was added at the end of a list
pub mod Formed  -- Units of the code whose forms stand for something of the definitions (R7RS 5.1)
pub mod Leaves  -- The leaves of the code's cores, as a list, and which leaves of the definition's cores they are
pub mod Members  -- Members of lists, and lists that stand for the members of others
pub mod Names  -- The names of trees, from left to right, with their places
pub mod Placed  -- The leaves, the uses and the definitions of a program of the code, with their forms
pub mod Sights  -- What is seen of a program of the code, and what the definition's program has of it
pub mod Variables  -- Pattern variables by number, and what arrows they give (R7RS 4.3.2)
pub mod Holes  -- The names of data with holes that stand in no hole, and how far a walk over such a datum is
pub mod Entries  -- The entries of units by their names, and when they are those of a program
pub mod Pairs  -- Pairs of a binder and a use, and occurrences, in their order and each once
