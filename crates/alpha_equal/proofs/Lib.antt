pub mod MarkLaws  -- The marks of a core of the code, case by case
pub mod CoreLaws  -- The marks of a core of the code are the points of the core that it stands for
pub mod CompareLaws  -- Partners one after another, and the points at a place of two lists
pub mod NumberLaws  -- The numbers of definitions, by the code and by the table of the definition's program
pub mod NodeLaws  -- The nodes of lists, with and without an escape
pub mod MeaningLaws  -- Meanings by what the code has of them, and slots one after another
pub mod DataLaws  -- The nodes of data with holes, and walks over them
pub mod AtomLaws  -- Atoms by the leaves that stand for them
