pub mod Onward  -- What documents name, directly or not
