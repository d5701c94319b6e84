pub mod Leaves  -- What binders, targets and other leaves of cores become under other numbers
pub mod Notes  -- Notes under other numbers
pub mod Values  -- What the values of the code become under other numbers
pub mod Standing  -- That values stand under other numbers for what they stood for
