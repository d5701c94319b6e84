pub mod RefusalTexts  -- What a refused rename says (LSP 3.17, ResponseError)
pub mod ToldRenames  -- What a rename at a position of an open document answers (LSP 3.17, textDocument/rename)
pub mod RenameOutcomes  -- Renames of the code and what they stand for
pub mod ReadDocuments  -- The open documents with their program, by how they are read
