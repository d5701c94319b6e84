pub mod Told  -- What tells the rules of a macro in the code
