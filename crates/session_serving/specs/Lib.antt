pub mod SessionEnds  -- How sessions end, and which status each end has
pub mod SessionOutput  -- What a session writes in answer to a stream of bytes (LSP 3.17, base protocol and lifecycle)
pub mod AheadOutput  -- What a session writes in answer to a stream that comes in pieces, where the bodies of a piece are looked at ahead or not (LSP 3.17, "Cancellation Support")
pub mod BodiesOutcome  -- What answering bodies one after another leaves, in the middle of a session
pub mod QuietBytes  -- Bytes whose bodies tell no document event and ask for no rename
pub mod CountedBytes  -- The macro uses that are counted over bytes (R7RS 4.3)
pub mod PieceOutcome  -- What a server makes of a piece of its input, whose bodies it looks at ahead or not
pub mod ServeOutcome  -- How the command `serve` ends, and why
pub mod AheadOutcome  -- How a session ends whose input comes in pieces, where the bodies of a piece are looked at ahead or not
