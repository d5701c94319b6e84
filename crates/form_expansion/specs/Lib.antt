pub mod Ends  -- Where work on a unit ends, and how its forms are numbered (R7RS 5.1, 5.3)
pub mod Forms  -- The forms of a unit as they are gone through and expanded (R7RS 5.1, 5.3)
pub mod Refused  -- Declarations that include a text, which is refused
