pub mod Answered  -- Whether what a form asked has its answers still, asked outside of all forms (R7RS 4.3, 5.3)
pub mod EditionsOn  -- Editions that go on from what stood before an event to what stands now
