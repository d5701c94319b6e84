pub mod Renumbered  -- Entries under other numbers
