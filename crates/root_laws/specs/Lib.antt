pub mod AtRoot  -- Macros that stand outside of all frames (R7RS 4.3)
