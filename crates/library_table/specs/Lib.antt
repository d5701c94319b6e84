pub mod ListingsRead  -- What texts list, as the code has it
