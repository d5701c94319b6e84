pub mod Points  -- What the points of the code stand for, in a form of a unit
pub mod Compared  -- What comparing points takes
pub mod Marks  -- The marks of the code's cores, as a list, and which points of the definition's cores they are
pub mod Numbered  -- The numbers of definitions of the code
pub mod Nodes  -- What nodes of trees of the code stand for
pub mod Slots  -- What the slots of rules of the code stand for
pub mod Filled  -- What is known of the numbers of definitions, and how slots are filled
pub mod Data  -- What nodes of quoted data of the code stand for, and how far a walk over a datum with holes is
