pub mod Machine  -- What the machine does at each byte before a body, and what it makes of bytes
pub mod Standing  -- Where a deframer stands in a stream
pub mod Taken  -- What a piece of a stream makes of the frame that is being read
pub mod Deframed  -- What callers see of a deframer
pub mod Feeds  -- What a deframer answers to a piece, and what it is then
pub mod Runs  -- Pieces that a deframer took one after another
