pub mod TextLaws  -- The texts of libraries by their numbers
pub mod KnownLaws  -- What is known once all that is published was kept
pub mod CountLaws  -- The diagnostics of documents are counted by what is known of each
pub mod SumLaws  -- Sums along a list
pub mod OpenLaws  -- A document is opened where there is room and its text is short
pub mod EditLaws  -- The edits of a rename, counted as they are told
mod TextRows  -- Some texts and uris of workspaces, letter by letter
