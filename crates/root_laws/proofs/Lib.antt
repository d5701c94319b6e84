pub mod RootRuns  -- While a form is gone through where all macros and notes stand outside of all frames, so do those that it adds
pub mod OutsideItems  -- When what a form set aside is expanded, the macros that aren't local stay the same
pub mod RootStates  -- What is outside of a state forgets what is local in it
