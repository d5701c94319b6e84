pub mod LeftLaws  -- What is left of forms stands under other numbers for what it stood for
pub mod CheckedRules  -- Rules that were checked are so under other numbers
pub mod PartLaws  -- What a form left in its unit stands under other numbers for what it stood for
pub mod PreludeStays  -- The macros of the prelude stand under other numbers that keep the prelude's unit, since no tree of theirs has a place
