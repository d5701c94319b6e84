pub mod Matched  -- Lists whose items are matched, place by place
