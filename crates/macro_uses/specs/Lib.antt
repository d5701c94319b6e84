pub mod MacroUses  -- The macro uses that expanding a program counts (R7RS 4.3)
pub mod ScopedUses  -- The macro uses that expanding a program by scopes counts (R7RS 4.3)
