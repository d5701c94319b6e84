-- The limits of the product. Sizes of texts and messages are bytes.
use Rattle.std.specs.Prelude.{ℕ}

-- open documents
abbrev pub max_documents : ℕ
max_documents = 64

-- the text of a document
abbrev pub max_text : ℕ
max_text = 1048576

-- nested nodes of a tree that a macro use builds
abbrev pub max_tree_depth : ℕ
max_tree_depth = 1000

-- the nodes of such a tree, a shared part counted each time that it stands there
abbrev pub max_tree_nodes : ℕ
max_tree_nodes = 4194304
