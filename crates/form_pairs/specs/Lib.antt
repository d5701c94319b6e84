pub mod Trees  -- The trees of data whose tokens count from their form's first, as they are compared
pub mod Units  -- Units as they are paired, and what the code's stand for
pub mod Fronts  -- Forms of two units that are the same from their ends on
pub mod Found  -- Pairs of units as the code has them
