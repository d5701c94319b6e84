pub mod Fronts  -- Lists that are changed thing by thing
pub mod TreeLaws  -- Trees under other numbers
pub mod LeafLaws  -- Leaves of cores stand under other numbers for what they stood for
pub mod CoreLaws  -- Cores stand under other numbers for what they stood for
pub mod FormLaws  -- Forms of units stand under other numbers for what they stood for
pub mod NoteLaws  -- Notes under other numbers stand for what they stood for
pub mod BackLaws  -- By the way back all that has numbers in it comes to be what it was
pub mod ValueLaws  -- Cores as values under other numbers, at each variant
mod MovedRows  -- Two units that change places, with the forms of the first in another order, and the way back, computed
