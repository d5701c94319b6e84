pub mod Places  -- A fact at each place of a list
pub mod Documents  -- Texts as documents, of which each string means one
pub mod Marks  -- Marks of documents
pub mod Programs  -- The numbers of programs, counted on
pub mod Parts  -- What documents are to one another, and the order in which texts are included
