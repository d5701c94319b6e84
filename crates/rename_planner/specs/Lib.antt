pub mod Planning  -- The conditions of a rename by their code and by the definition, as far as they compare no programs
pub mod Changes  -- The exports that are to change, as the code finds them
pub mod Preparing  -- What is prepared for a rename (LSP 3.17, textDocument/prepareRename), and where there is nothing to rename
