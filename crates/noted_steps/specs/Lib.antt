pub mod Noting  -- Expansion that notes what it asks
pub mod Standing  -- What the scopes of the code and its notes stand for while a form is at work
pub mod Stepped  -- What the operations make of a state of an expansion that notes, and of frames
pub mod Outcomes  -- How a call of the expander ends while what is asked is noted
pub mod Used  -- A macro use of which the comparisons are asked first (R7RS 4.3.2)
pub mod Kept  -- Where forms are gone through, and a macro use, in a state of an expansion that notes
pub mod Defined  -- How a definition ends, by the number of its fault
pub mod Asked  -- What a core form asks before it is read (R7RS 4.2.1, 4.2.8)
