pub mod Left  -- What is left of forms, and what they set aside, under other numbers
pub mod Part  -- What forms left in their units, under other numbers
