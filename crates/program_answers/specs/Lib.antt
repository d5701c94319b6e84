pub mod Listings  -- The diagnostics of a document, where it has some
pub mod Updates  -- The lists of documents, and which of them are published after an event (LSP 3.17, publishDiagnostics)
pub mod Placed  -- Places of the open documents, at positions of an encoding (LSP 3.17, Range)
pub mod ToldAnswers  -- Answers at positions of an encoding (LSP 3.17, Location, DocumentHighlight), about open documents that are read so
pub mod Named  -- The identifiers of units as the code keeps and seeks them, and tokens as it cuts them out of texts
pub mod BytesKept  -- Bytes of documents, lit ones and drawn pairs, as the code keeps them
pub mod AskedOf  -- What answers about open documents are taken from
pub mod Classed  -- The class of the identifier at a position of a document, and its standard name
