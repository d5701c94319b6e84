pub mod GoingOn  -- A unit of which some forms are kept, and what is local is forgotten behind each turn, where a definition goes through the notes that speak of its identifier alone (R7RS 5.1, 5.3)
