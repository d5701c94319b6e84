pub mod Readings  -- How the open documents are read (R7RS 7.1.2), and the program that they are (R7RS 5)
pub mod Findings  -- What is found wrong as the definition's diagnostics, and how the code keeps those of each document
pub mod Listed  -- The diagnostics of the open documents (LSP 3.17, Diagnostic)
pub mod Stored  -- Documents of a store, one by one, and what it refuses
pub mod WereRead  -- Forms of units that were read from texts
pub mod Changed  -- A list in which each item becomes another at its place
pub mod Broken  -- Units that break as a whole, and what stays of units meanwhile
pub mod Libraries  -- Libraries by their names, and the entries that they give (R7RS 5.2, 5.6.1)
pub mod DataRead  -- Data of documents that were read from texts, and the documents that they are
pub mod Diagnosed  -- What the code finds in forms, beside the definition's diagnostics and Errors
pub mod UnitSources  -- The sources of units, as the code has them (R7RS 5.1, 5.2, 5.6.1)
pub mod Places  -- The places of units and of their tokens, as the code keeps them
pub mod UnitFindings  -- What is found of the units of a program
pub mod Belongs  -- What belongs to the open documents
