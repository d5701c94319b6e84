pub mod Statuses  -- The statuses of a run, and which one a fetch has that stops
pub mod Reads  -- What was read of a source
pub mod Prints  -- What was printed to a sink
pub mod Streams  -- What the source and the sink show at a moment
