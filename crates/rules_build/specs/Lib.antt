pub mod Faults  -- The faults of building that faults of adding nodes are
pub mod Values  -- What variables stand for at one place of the ellipses around a part of a template
pub mod Drafts  -- What is to be built, before a node of it is made
pub mod Builds  -- How building ends
pub mod Adds  -- What adding the nodes of a plan leaves of the nodes and names that stood before
