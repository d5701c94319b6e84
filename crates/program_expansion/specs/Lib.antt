pub mod AtWork  -- The forms of a unit that are worked on (R7RS 4.1.7, 5.1), as the code has them
pub mod UnitResults  -- What units come to by the definition of a program, and what the bench stands for between two of them (R7RS 5.1, 5.6)
pub mod UsesInTurn  -- The macro uses that are counted while units are expanded in their turns (R7RS 4.3, 5.6)
