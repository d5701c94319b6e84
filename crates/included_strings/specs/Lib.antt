pub mod Strings  -- Strings as they are read
