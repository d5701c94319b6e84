pub mod Tops  -- What is set aside binds
