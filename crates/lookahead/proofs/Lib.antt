pub mod Names  -- Counts by names, when one of them changes
pub mod RoleCounts  -- How many cancellations stand among bodies, when one comes behind them and when the first goes
pub mod HeldLaws  -- No more bodies are counted than a window holds
pub mod OneCompletion  -- Pieces complete bodies in one way
pub mod ExitBars  -- Up to an `exit`, what stands behind it doesn't matter
pub mod rows  -- The definitions on worked rows
pub mod Groups  -- Bodies that are looked at in groups
