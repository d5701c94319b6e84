pub mod UnitUses  -- A unit counts the same by scopes as by substitution, since both come to one state
pub mod ProgramUses  -- All units of a program count the same by scopes as by substitution
