pub mod Meant  -- Which document a string means in another (URL Standard, sections 4.4 and 4.5)
pub mod Kept  -- How uris are kept that are read once
