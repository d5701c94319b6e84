pub mod Places  -- The places of a list that pass a test, in order
pub mod Closed  -- What is named onward is closed, and is less from what is named and isn't on a circle
pub mod SameTexts  -- What a text gives depends on no more than what the strings in it mean
pub mod Depth  -- Includes are nested no deeper than there are documents, so what texts give includes all that they include
