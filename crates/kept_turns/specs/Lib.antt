pub mod Turns  -- Where the turn of a form comes (R7RS 5.1, 5.3), behind those of other forms of its unit; and what is kept of forms where more of them are kept
pub mod Ready  -- Forms of which the turns come (R7RS 5.1, 5.3)
pub mod Stays  -- What forms leave at the root of their unit (R7RS 5.3)
