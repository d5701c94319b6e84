pub mod Noted  -- Which questions are noted for a form (R7RS 4.3, 5.3)
