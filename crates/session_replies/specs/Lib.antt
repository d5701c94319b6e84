pub mod FromWire  -- What the messages of a client are in the words of a session (JSON-RPC 2.0 sections 4 and 5; LSP 3.17)
pub mod States  -- The state of a session as contracts see it
pub mod Asked  -- What requests ask of the texts and what answers queries (LSP 3.17, "Language Features"), and which lists are published after an event (LSP 3.17, publishDiagnostics)
pub mod ToWire  -- The messages to the client that are the replies of a session (JSON-RPC 2.0 section 5; LSP 3.17)
pub mod Counted  -- The macro uses that messages lead to (R7RS 4.3)
pub mod Stepped  -- One step of a session, from the bytes of a body to the messages that answer it
pub mod Agreement  -- The store's definition of what events make of the texts, in the words of a session's
pub mod Events  -- What the server tells of a document event (LSP 3.17, text synchronisation)
pub mod Renamed  -- What the server tells of a rename (LSP 3.17, textDocument/rename)
