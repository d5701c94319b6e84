pub mod Formed  -- Units that were expanded, whose forms stand for something of the definitions (R7RS 5.1)
pub mod UnitsExpanded  -- What units came to, as far as it is sure whatever the units are
pub mod ReadingOf  -- What the open documents are read and expanded to
pub mod Came  -- What units come to by the definition of a program (R7RS 5.1, 5.6)
pub mod UnitsFound  -- What is found wrong in units, as the definition's diagnostics and Errors of the program that they come to (R7RS 5.1, 5.6)
