pub mod Lexical  -- The lexical syntax (R7RS 7.1.1)
pub mod Faults  -- Why a text is no text of tokens, and where that is shown
pub mod Stopping  -- Where the reading of a text stops (R7RS 7.1.1)
pub mod Spelling  -- How a name is written (R7RS 7.1.1, identifier and symbol element)
pub mod Mirror  -- What the code computes, function by function
pub mod Views  -- What the code's tokens and faults stand for
pub mod Apart  -- Tokens stand one behind another (R7RS 7.1.1)
pub mod Symbols  -- Trees whose identifiers' symbols are the bytes of their characters
pub mod LibraryNames  -- Libraries' names (R7RS 5.6.1)
