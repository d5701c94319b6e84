pub mod Had  -- What was kept of forms before (R7RS 4.3, 5.3), and which of it has its answers where their turns come now
