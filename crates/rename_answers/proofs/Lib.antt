pub mod RoundTrip  -- The offset of the position of an offset is the offset, where this stands between characters and not within the end of a line
pub mod NameEnds  -- Identifiers begin and end within no line end, so their ends come back from their positions
pub mod NamedTokens  -- The identifiers of units are identifiers of the data of their document, so only such get the new names of a class
pub mod ClassEnds  -- The edits of the identifiers of a document, told at positions, are for the bytes that they were made for
pub mod ReadersAgree  -- What texts are by a reader is what they are as they are read
pub mod ConditionLaws  -- The conditions of the code and those of the definition
pub mod MemberLaws  -- The occurrences that a class has parts for are its members that have a prefix, and what is told by its members is told by them
pub mod EditLaws  -- The edits as they are told, and the edited texts, are those of the definition
pub mod PlaceLaws  -- Places of the code as they are told
pub mod TellsLaws  -- The texts of libraries' names tell the libraries of two programs apart, and no two open documents have one uri
pub mod DistinctLaws  -- No two open documents have one uri
pub mod SymbolLaws  -- The symbol of a new name is the one that a reader tells
pub mod TriedLaws  -- The edits as they are told can be tried
pub mod SpansRead  -- The bytes of the tokens of documents that are read so
