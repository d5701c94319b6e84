-- What the code computes, function by function. No clause of a public call names it; proofs show that it answers by the grammar.
pub mod Words
pub mod Gaps
pub mod Quoted
pub mod Tokens
pub mod Reading
pub mod Spelled
pub mod Told
