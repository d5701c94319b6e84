pub mod Begun  -- Where each expansion begins
