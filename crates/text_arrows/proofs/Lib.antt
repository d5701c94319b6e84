pub mod AloneLaws  -- A text alone, opened where no document was open
pub mod OneText  -- A text has one answer, and one count of macro uses
