pub mod Permutations  -- Tables of new numbers and of old ones
pub mod Sent  -- Where pairs of units send numbers
