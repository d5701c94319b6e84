pub mod NamesKept  -- Definitions and names stand for the same once names are added
pub mod CameKept  -- What units came to stands for the same in a work that has only grown
pub mod ReadingLaws  -- The program of documents, one unit more
pub mod SoundKept  -- Units stay sound while their heads and their sources stay
pub mod UnitsTurns  -- Units in turn
pub mod FoundParts  -- What is found of a unit is what the definition has of it, part by part
pub mod NoImport  -- A program without an import, told by what was read and by the definition
pub mod FormsKnown  -- What the forms of a unit tell once they are expanded
