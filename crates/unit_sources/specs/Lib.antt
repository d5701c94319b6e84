pub mod Named  -- Which unit a library's name means, and which units a unit imports, by the texts of the names
pub mod Sources  -- What the units of the code are (R7RS 5.1, 5.6.1)
pub mod Repeated  -- The libraries whose name an earlier one has (R7RS 5.6)
pub mod Exported  -- What exports give, over the entries of the code
pub mod Exports  -- What a unit exports, and the faults of its exports, as the code has them (R7RS 5.6.1)
pub mod Graphs  -- The units by their places, each with the places of what it imports; and the names of those at some places
pub mod Orders  -- The order of units, each after what it imports, and the libraries that import one another in a circle (R7RS 5.6)
pub mod PartsRead  -- How the identifiers of declarations are read
pub mod SetsRead  -- Import sets as they are read (R7RS 5.2), and their places in the text
pub mod UnitsRead  -- What units that are read stand for (R7RS 5.1, 5.6.1)
