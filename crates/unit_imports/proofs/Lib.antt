pub mod MeaningLaws  -- Entries of the code stand for the same while names are added; and what standard names and definitions stand for
pub mod JoiningLaws  -- Entries that are put together stand for some, and each name stands once among them
pub mod ImportLaws  -- What import sets of the code give stands for some entries
pub mod DefinedLaws  -- What forms define, one form more
pub mod SetErrors  -- The Errors of import sets, each with the form that its set stands in
pub mod NameLaws  -- What can be exported of a unit is what the definition finds by name
pub mod BaseLaws  -- What `(scheme base)` gives
pub mod ToldLaws  -- What is found, and the diagnostics that it is
pub mod GivenLaws  -- What import sets of the code come to is what the definition's sets come to
pub mod Collecting  -- Units that are put together, one more
pub mod ExportLaws  -- Exports of the code stand for some, and what is wrong in them is the definition's
pub mod UsedLaws  -- Identifiers of imports and exports that are added one after another
pub mod BrokenForms  -- The forms of the code that have a fault are those that are broken
pub mod HidingLaws  -- What is found of definitions that hide imports tells the definition's diagnostics
mod SecondLaws  -- The second identifiers of the pairs of import sets, one set more at a time
