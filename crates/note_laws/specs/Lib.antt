pub mod Told  -- Questions that are noted, as notes (R7RS 4.3, 5.3)
pub mod Searching  -- A unit that forgets what is local behind each form's turn, where a definition goes through the notes that speak of its identifier alone (R7RS 5.1, 5.3)
pub mod Tested  -- Notes that are tested in other surroundings of the form (R7RS 4.3, 5.3)
pub mod SameParts  -- A part of a form that is at work still (R7RS 5.3)
pub mod SameRoots  -- Two states with one root (R7RS 5.3)
pub mod Moments  -- What a form has defined in its unit by a moment (R7RS 5.3) is the end of what it has defined later
