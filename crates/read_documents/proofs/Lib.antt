pub mod ChangedLaws  -- Lists in which items change at their places
pub mod FoundLaws  -- What is found stands in the documents
pub mod PutLaws  -- Lists in a total order that have of equal elements one
pub mod SortedLaws  -- The definition's order of diagnostics is a total one, and what stands in a document is in a map's
pub mod KeptLaws  -- What the code keeps of documents, with one finding more
pub mod Nths  -- The entries of a finite map by their places
pub mod Copies  -- The documents of a store by their places, and copies of a store
pub mod DocumentLaws  -- Documents as they are read, one by one, and the bytes of their tokens
pub mod PlaceLaws  -- Units, forms and tokens by their places, as the code keeps them
pub mod UnreadLaws  -- The first document that doesn't read, by the faults that the code keeps
pub mod OneIfSame  -- An export that isn't renamed has one identifier
pub mod DiagnosedLaws  -- What is found in forms tells the definition's diagnostics
pub mod HeadsKept  -- Heads that stay are those of the same units
pub mod ToldUnits  -- Units of a program one by one
pub mod TokenPlaces  -- The bytes of a datum's first token are those of the token with its number (R7RS 7.1.2)
pub mod OpenedLaws  -- The documents that are opened are those that their texts are read as
pub mod Enumerated  -- The items of a list with their places
