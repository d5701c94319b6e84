pub mod SlotLists  -- What contracts see of slots
pub mod Entries  -- How the vacant entries of a vector are linked, and how many more values it has memory for
pub mod NodePool  -- A pool of nodes
pub mod Chains  -- How the nodes of a region hang together in the slots of the code
pub mod Pools  -- What contracts say of a pool
