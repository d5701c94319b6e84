pub mod TextsOf  -- The finite map that the entries of a store make
pub mod Events  -- What events make of the texts
pub mod Rising  -- Offsets rise with positions
