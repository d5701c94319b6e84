pub mod ReadLaws  -- Reads one after another
pub mod Fronts  -- Fronts of bytes that are printed piece by piece
pub mod Taken  -- Bytes taken from the front of what is left, read by read
