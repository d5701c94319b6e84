pub mod Contents  -- What is found in patterns, part by part
pub mod Sights  -- What is seen of templates, part by part
pub mod ReadLaws  -- The shape of a list of rules, part by part
pub mod Faults  -- The lowest fault of a rule, by numbers and as it is defined
pub mod Gathering  -- Leaves of rules, gathered one after another
