pub mod Items  -- The items of a list from a place on
pub mod Writes  -- Bytes written one after another
