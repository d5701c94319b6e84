pub mod PairsKnown  -- Pairs of an event are among those that are known before forms are worked on
pub mod CarriedKnown  -- What is carried by the pairs of an event is carried by those that are known before, so no more is worked
pub mod KnownTrees  -- A form that goes on by pairs that are known before has the tree that it had
