pub mod BrokenLaws  -- Units that break, and that stay otherwise
pub mod SoundLaws  -- Units stay sound as they are listed
pub mod RisingParts  -- The parts of what was read stand one behind the other, and of two neighbours one at most is implied by a mark
pub mod ListedForms  -- What holds of data with their homes, and of all that stands in them, holds of each form that they give
pub mod ReadForms  -- The forms of units were read, where the data of all documents were, also those that are declarations, and those of included texts
pub mod RenamedLaws  -- An export stands under another name where its two identifiers stand at two places, as they were read from two tokens
pub mod ExportsRead  -- Exports that are read are those of the definition
pub mod NamedUnits  -- Which units a unit imports
pub mod TurnGraph  -- Units wait for units that aren't too many, and in no circle
pub mod BrokenSteps  -- One unit more
pub mod CircleNames  -- The units on circles are told by the names of their libraries
pub mod Handed  -- The units as they are put in order
pub mod StandardNamed  -- Units with a standard name are imported by none
pub mod JudgedLaws  -- Units are judged as the definition of a program breaks them
pub mod KnownSteps  -- The names of libraries, one datum and one document more at a time
pub mod UnitStarts  -- Units begin at the tokens with the numbers of their first ones
pub mod ViewedDocuments  -- Documents that are opened, as the texts of which it is asked what they name
pub mod ReaderLaws  -- What units are read by
pub mod ListedUnits  -- Units as they are listed
pub mod ListedDocuments  -- The units of documents, one datum and one document more at a time
pub mod IdentifierLaws  -- The identifiers of units by the numbers of their tokens
pub mod AddedUnits  -- What is read of the libraries and of the program of a document, as units that are listed
pub mod RangeLaws  -- The tokens of forms, one form more at a time
