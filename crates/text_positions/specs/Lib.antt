pub mod Table  -- What contracts see of the lines of a text
pub mod Walks  -- What the walks over a text and the search in the table of line starts find
pub mod Marks  -- What a mark within a line says of a text
pub mod Lines  -- Where the lines of a text begin, and what is marked within them
