pub mod Bodies  -- A body as JSON
pub mod Causes  -- What a body says has the shape that the standard gives it, and each refusal has its cause
pub mod Changes  -- Reading changes one after the other, as a loop does
pub mod Depths  -- No message to the client nests deep, so each reads as its JSON
pub mod Readable  -- Data of which each number is in range and the keys of each object are in order
pub mod Pieces  -- The text of data, piece by piece
pub mod Written  -- A text that was written piece by piece is the body of its data
pub mod Documents  -- The edits of each document, as a map of texts
