pub mod AtHome  -- Where an included form is at home (R7RS 4.1.7)
