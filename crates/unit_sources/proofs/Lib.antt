pub mod NamedLaws  -- Which unit a library's name means
mod StandardLaws  -- A standard name means no unit, whatever units there are
pub mod RepeatedLaws  -- A unit is among the repeated ones where the first unit with its name is another
mod ExportLaws  -- What exports of the code give stands for what the exports give
pub mod GraphLaws  -- The rows of the code's graph are what the units import; the units stand at their numbers
mod CircleLaws  -- The units on circles, and their names
mod OrderLaws  -- What a call on the order of units answers
mod WorkLaws  -- The turns are the order in which the definition of a program works on its units
mod Chaining  -- How readings are put together
mod TreeRows  -- The trees of data in a row
mod SetRows  -- Import sets as they are read
mod Gathering  -- What is gathered from the items of a list, each with its number
pub mod NameRows  -- The names of libraries, by the parts of data
pub mod ProgramRows  -- The data of a document that are no libraries, one more at a time, and a part's program of them
mod ExportRows  -- Exports as they are read
mod PlaceLaws  -- The turns of any graph are its places, each of them once; and so are the places of names that stand twice
mod ProperNames  -- Names that are read are proper
pub mod KnownTexts  -- Which libraries there are, by the texts of their names
pub mod SpelledSources  -- Libraries' names in what is read, however names are told apart by texts that write each proper one as it is written
