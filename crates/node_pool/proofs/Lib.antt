pub mod EntryLaws  -- Each change of the entries keeps their count and the list of vacant ones
pub mod MapLaws  -- Slots as maps
pub mod ChainLaws  -- Each change of the slots keeps the chains of all regions
pub mod BackLaws  -- What lives after a region went back
pub mod PoolLaws  -- What contracts see of a pool, by its slots
pub mod ShorterLaws  -- A region that loses its last nodes one by one comes to where it goes back at once
pub mod KeepLaws  -- What a change of a pool leaves as it was
pub mod ReplaceLaws  -- A node in place of another one keeps the chains of all regions
