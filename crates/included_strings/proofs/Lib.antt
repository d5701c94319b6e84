pub mod StringLaws  -- Strings of lists that include, as they are read
pub mod WalkLaws  -- The strings of a datum are those of its parts, one after another
