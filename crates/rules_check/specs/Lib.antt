pub mod Checked  -- How a check of rules ends
pub mod Patterns  -- What is found in patterns
pub mod Templates  -- What is seen of templates
pub mod Lowest  -- Variables by number, and the lowest fault of a rule
pub mod Gathered  -- How the leaves of rules are gathered
