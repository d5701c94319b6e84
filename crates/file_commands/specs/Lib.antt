pub mod Checking  -- What is printed of files (LSP 3.17, Diagnostic)
pub mod Renaming  -- What is printed of a rename in a file, which is the one document that is open (LSP 3.17, textDocument/rename)
