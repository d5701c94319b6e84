pub mod Unbound  -- References and assignments that mean nothing, in cores of the code and of the definition (R7RS 4.1.1)
pub mod StandIn  -- Forms of a unit whose identifiers are among names
pub mod LostFound  -- What is found of strings that mean no text (R7RS 4.1.7)
