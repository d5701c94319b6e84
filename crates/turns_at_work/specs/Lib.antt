pub mod AtTurn  -- What is around a form at its turn, where what is local is forgotten (R7RS 4.3, 5.3)
