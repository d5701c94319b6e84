pub mod PermutationLaws  -- Numbers that change places
pub mod PairLaws  -- What pairs tell of units and forms
