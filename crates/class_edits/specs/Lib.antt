pub mod Named  -- The new names of the parts of a class, and the identifiers and edits of documents, as the code keeps them
pub mod Clashes  -- The members of a class that would get two new names
pub mod FirstBytes  -- The first of bytes by document and start, and the occurrences that have several parts, as the code finds them
pub mod DocumentEdits  -- The edits of the open documents by which a class gets a new stem, what the texts are then, and how the edits are told
