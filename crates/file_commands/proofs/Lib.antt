pub mod FileLaws  -- Files one after another
pub mod Room  -- There is room for each file, and each is short enough, so that none is refused
pub mod PrintedLaws  -- What is printed of lists one after another
pub mod ContentLaws  -- What is printed of a rename in a content, which is a text or isn't UTF-8
pub mod OneText  -- The texts where one is opened
pub mod CountLaws  -- The macro uses that a rename in one text counts
pub mod Refused  -- What a fault says is what the rename is refused with
pub mod Told  -- What is printed of a rename in one text
pub mod Rows  -- Files, and what is printed of them
