mod Chaining  -- How readings are put together
mod TreeRows  -- The trees of data in a row
pub mod NameTexts  -- The texts of libraries' names
mod RequirementRows  -- Requirements as they are read
mod ProperNames  -- A requirement by a library's name is met as a set of texts knows libraries, since names that are read are proper
pub mod WeightLaws  -- What is inside a datum is lighter
