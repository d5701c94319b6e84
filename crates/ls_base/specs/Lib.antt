pub mod Frames  -- Frames (LSP 3.17, base protocol)
pub mod Positions  -- Positions in a text (LSP 3.17, Position)
pub mod Limits  -- The limits of the product
