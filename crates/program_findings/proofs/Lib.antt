pub mod ReferredForms  -- Forms that are referred to, one after another
mod HomeLaws  -- The form with a number of a unit holds what the form at that place does
pub mod FirstLaws  -- The first Error among findings, one after another
pub mod StandInLaws  -- The identifiers of forms are among the names
pub mod UnboundLaws  -- The unbound uses that the code finds are those of the definition
pub mod UnboundFound  -- What is found of uses that mean nothing tells the definition's diagnostics
pub mod WholeLaws  -- What is found of a unit that is broken as a whole tells the definition's diagnostic
pub mod StopsLaws  -- Documents that don't read have that alone, and what the code keeps of all documents
mod LostLaws  -- What is found of strings that mean no text tells the definition's diagnostics
