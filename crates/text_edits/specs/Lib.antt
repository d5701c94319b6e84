pub mod Edits  -- New text for some bytes of a text
pub mod NewNames  -- The edits of a document by which some of its identifiers get new names (R7RS 7.1.1)
pub mod Members  -- The new names of the members of a class
pub mod Renamed  -- Data whose identifiers have new names
pub mod Views  -- What the edits and identifiers of the code stand for
pub mod GivenBack  -- Identifiers that get their old names back (R7RS 7.1.1)
