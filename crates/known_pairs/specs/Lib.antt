pub mod Known  -- Which units go on, by what is known before forms are worked on (R7RS 5.1)
