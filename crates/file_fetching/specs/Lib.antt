pub mod FilesSeen  -- What files show at a moment
pub mod Fetching  -- How fetching files ends, and what was asked for
