pub mod Agreeing  -- Renumberings that agree on the numbers of a program (R7RS 5.1)
pub mod Tables  -- Numbers that tables of an event tell, where included forms that go on keep their numbers at home (R7RS 4.1.7, 5.1)
pub mod Following  -- Numbers that follow others wherever these lead to what a program has (R7RS 5.1)
