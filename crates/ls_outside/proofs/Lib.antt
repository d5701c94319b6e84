pub mod CallLaws  -- Calls that are made one after another
pub mod Fronts  -- What a read of a part of the first piece leaves
pub mod Marks  -- The one machine value of a struct that has a marker alone
pub mod Noted  -- The bytes of pieces, one piece more
