pub mod NewsTold  -- Lists as the code keeps them, by uri
pub mod PlaceLaws  -- The places of open documents, and of the documents that they are read as
pub mod NoTexts  -- A workspace without documents
pub mod IndexedLaws  -- The index of the program of the open documents
pub mod TrialLaws  -- The program of the open documents stands in trees that have grown
