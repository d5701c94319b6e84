pub mod Places  -- Entries by unit and form, where one is put or taken out
pub mod MostNumbers  -- What a form of a unit sets aside binds definitions with numbers up to how many of them the unit has behind it
pub mod Fronts  -- Lists that are changed thing by thing
pub mod Shifts  -- What binds definitions of a unit stands for what it stood for, with other numbers of these
pub mod ShiftedEntries  -- What is kept of a form stands for what it stood for, with another number of definitions of its unit before the form
