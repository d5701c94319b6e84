pub mod Wording  -- The text that a session says by itself
pub mod ReplyFrames  -- The bytes that replies are written as (LSP 3.17, base protocol)
pub mod Writing  -- How writing bytes ends that are made on the way
