pub mod Texts  -- The standard libraries by the texts of their names
pub mod Sketches  -- The trees that steps make
pub mod Rows  -- What a row of trees is that steps have made, and how a step ends
pub mod Macros  -- What the macros of the prelude stand for
pub mod Sketched  -- What macros that are made of sketches stand for, and how making them ends
