pub mod Variables  -- The pattern variables of a rule by number, and the slots of names of patterns and templates (R7RS 4.3.2)
pub mod Apart  -- What two points of the code that don't agree stand for, with the form of a unit that they stand in
pub mod Listed  -- The lists of units of the code, compared by document, kind, number of forms and name, and the least form with an Error
pub mod Exported  -- The names that exports are asked to have, and exports as they are given
pub mod Both  -- What two programs of the code and a unit of both stand for
pub mod Reached  -- Which units are in reach, by a mark for each
pub mod Differences  -- What plans and differences of the code stand for
