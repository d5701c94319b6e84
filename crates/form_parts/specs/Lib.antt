pub mod Heads  -- What the heads of the code stand for
pub mod Marked  -- The marks of a quasiquotation by number, and what it counts (R7RS 4.2.8)
pub mod FormsSeen  -- What is seen of forms while they are gone through, and what a record defines (R7RS 4.3, 5.3.2, 5.5)
pub mod Records  -- The shape of a record's definition in the code (R7RS 5.5)
