pub mod Encodings  -- The encoding in which positions count (LSP 3.17, PositionEncodingKind)
pub mod Fields  -- The fields of an object, and what each may hold (LSP 3.17, "Base types" and "Basic JSON Structures")
pub mod Parameters  -- The methods, and what the parameters of each say (LSP 3.17, "Lifecycle Messages", "Text Document Synchronization", "Language Features")
pub mod Messages  -- What a body says (JSON-RPC 2.0 section 4)
pub mod Replies  -- The JSON of each message to the client, with the members of an object in the byte order of their keys, and its text (JSON-RPC 2.0 section 5; LSP 3.17)
pub mod Shapes  -- What requests, notifications and responses are (JSON-RPC 2.0 sections 4 and 5), apart from any order of judgement
pub mod Written  -- A text that grows by the JSON of data, and the body that it becomes
