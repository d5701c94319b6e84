pub mod Numbers  -- The renumbering that tables of new numbers tell
pub mod Works  -- Works under other numbers
