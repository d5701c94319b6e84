pub mod Environment  -- The scopes of all units, as contracts see them (R7RS 3.1)
pub mod Marks  -- Identifiers that are marked by their numbers, and that all that scopes bind are
pub mod Kept  -- How scopes are kept, and environments as numbers, by which proofs tell them apart
pub mod Resolved  -- What an identifier means in a scope, by numbers (R7RS 4.3)
pub mod Standing  -- What the scopes of an environment stand for
pub mod Moved  -- What changes of an environment do to what it stands for
