pub mod PrefixLaws  -- The prefixes of an occurrence
pub mod ClashLaws  -- Parts in order
pub mod FirstLaws  -- The first of bytes is the one with which they begin in their order
pub mod NamedLaws  -- The members of a class with their new names are those that its parts are told with, where none has two prefixes
pub mod IdentifierLaws  -- The identifiers of a document as the code keeps them are those of the units of the document, and edits are decided by the names that tokens get
pub mod DocumentLaws  -- The edits of documents one by one
pub mod LongestLaws  -- The longest prefix of an identifier as classes tell it is the one that its new name has to keep
pub mod SpanLaws  -- The tokens of an open document are those of each reading of its text, and edits of them can be made
