pub mod Entries  -- Entries of forms that are carried (R7RS 4.3, 5.3)
