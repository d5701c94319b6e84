pub mod Roles  -- What a body is to those that stand before it (LSP 3.17, "Cancellation Support")
pub mod Cancelled  -- Which requests are cancelled among the bodies that a piece of a stream completes (LSP 3.17, "Cancellation Support")
pub mod Completed  -- The bodies that each piece of a stream completes (LSP 3.17, base protocol)
pub mod Ahead  -- A session that looks ahead
pub mod Windows  -- What a window answers, and what leaves it
pub mod Counts  -- How cancellations are counted by the ids that they name
pub mod Stands  -- How a window stands
pub mod Looked  -- The bodies that a piece of a stream completes, each beside the id by which it is cancelled (LSP 3.17, "Cancellation Support")
