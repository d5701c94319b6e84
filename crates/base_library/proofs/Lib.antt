pub mod TextLaws  -- The standard library that a text names
pub mod RowLaws  -- Rows of trees that steps make
pub mod MacroLaws  -- Macros that are made of sketches
pub mod PreludeLaws  -- The sketches of the prelude are its macros
pub mod StandardTexts  -- The texts of the standard libraries' names, as they are written
