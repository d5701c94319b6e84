pub mod Endings  -- How the definitions of a form in its unit end, and what those that stand make (R7RS 5.3)
