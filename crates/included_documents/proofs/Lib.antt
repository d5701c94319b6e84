pub mod rows  -- The definitions on worked rows
pub mod FirstPlaces  -- The place of the first document with each text, one document more
pub mod Folders  -- The folder of a path ends at its last slash
pub mod Readings  -- Documents whose uris are read
