pub mod AlikeSteps  -- Two expansions that differ in definitions alone
pub mod AlikeSides  -- Two expansions that differ in definitions alone, as two sides
pub mod AlikeUnits  -- What is left of a form of a unit, met and expanded by two expansions that differ in definitions alone, until work ends
pub mod BoundedNotes  -- A note that doesn't speak of an identifier is told nothing of its definition
pub mod SearchedStates  -- Expansion by scopes, where a definition asks the notes that speak of its identifier
pub mod SearchedUnits  -- A unit whose definitions ask the notes that speak of their identifiers is the unit by counts
pub mod SearchedPrograms  -- The units of a program, with definitions that ask the notes that speak of their identifiers
pub mod OtherForms  -- While a form is expanded, the counts of the others stay, and what is defined is of this form
pub mod OtherCounts  -- What another form has counted, met and defined stands for the same after a step, and definitions stay in the order of their forms
pub mod ItemTables  -- Where what was set aside is expanded only bodies define anything, so the units' definitions are what they were
pub mod PartsStay  -- What stood for a form's items, parts or fault in a work still does in one that grew
pub mod TopRuns  -- While forms are gone through, what is set aside binds locals in a body and definitions in a unit
pub mod TopCores  -- What is expanded binds locals alone, but for the parts of a unit, which bind its definitions
pub mod TopForms  -- What a form of a unit sets aside binds definitions of the unit, and so does what that is expanded to
