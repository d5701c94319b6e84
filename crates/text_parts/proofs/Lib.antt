pub mod EachLaws  -- A fact at each place of a list, one more
pub mod MarkLaws  -- Marks, one more of them, and how many there are
pub mod NameLaws  -- What documents name, by the strings in their texts
pub mod ReachLaws  -- Marks of what documents name, directly or not
pub mod ProgramLaws  -- The numbers of programs, counted on
pub mod PartLaws  -- What documents are to one another
pub mod OrderLaws  -- The order in which texts are included
