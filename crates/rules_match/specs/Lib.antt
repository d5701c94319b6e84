pub mod Rows  -- Rows of trees
pub mod Found  -- What matching of a part adds to what was matched before
pub mod Matches  -- How the calls of matching end
