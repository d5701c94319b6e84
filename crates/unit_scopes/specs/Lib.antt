pub mod Chains  -- The binders that frames are
pub mod Macros  -- What means a macro in the code, by its maps
pub mod Editions  -- The rules of macros by their editions
pub mod State  -- What the scopes, the macros and the counts of the code stand for
pub mod Counts  -- Counts within their budgets, and faults, as the code has them
pub mod Binds  -- Binders of names, and the scope in which they are bound, as the code has them
pub mod Stepped  -- What the operations make of a state and of frames, and what the code makes of its counts and scopes there
pub mod Outcomes  -- How a call of the expander ends
pub mod Told  -- The faults of forms that were misread, and of rules that are none, as the definition tells them
pub mod Asks  -- What was asked before a definition (R7RS 5.3, 5.4)
pub mod Searched  -- Expansion by counted scopes where a definition goes through some notes alone
pub mod Kept  -- What the forms that are gone through, what is set aside, and what was looked up stand for in the code (R7RS 5.3.2)
pub mod Used  -- A macro use in the code, and its comparisons (R7RS 4.3.2)
pub mod RulesTold  -- How the rules of macros are told by the code (R7RS 4.3.1, 5.4)
pub mod Defining  -- Definitions in the code (R7RS 5.3 to 5.5)
pub mod Units  -- The calls of the expander on the forms of units (R7RS 5.1, 5.3, 5.6)
pub mod Opened  -- What a unit begins with, in the definition and in the code (R7RS 5.1, 5.6)
pub mod Preluded  -- The prelude's unit (R7RS 4.2, 7.3)
pub mod Others  -- What a step of a form leaves of the forms beside it
pub mod Within  -- Notes and macros in scopes that are no newer than one
pub mod Forgotten  -- What is local to the forms of units, and is forgotten between two of them (R7RS 4.3, 5.3)
