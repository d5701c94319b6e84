pub mod Bares  -- Surroundings that differ in the times at which bodies were entered alone
pub mod OneSide  -- What each step of a form of a unit keeps holds of all that the form goes to; and each macro that it sets aside is a definition of the unit
pub mod Uses  -- In a unit at work each use whose place is kept is counted
pub mod Fronts  -- Items that were expanded elsewhere, one behind another, and work that may end behind each
pub mod Between  -- What holds of a unit at work between two of its forms, so that the next one may begin
pub mod UsesCounted  -- Each form of a unit counts its own macro uses alone, and never fewer
pub mod WorkedLaw  -- In a unit of which some forms are kept as many macro uses are worked as the others count
pub mod KeptRows  -- Small units of which one form is kept, computed
pub mod Numbers  -- What a form of a unit defines has numbers from the unit's count on, so that they may move twice
pub mod OneForm  -- One form of a unit in surroundings that differ in times alone
pub mod Ready  -- What the forms of a unit have counted where their turns come
pub mod KeptUnits  -- A unit of which some forms are kept comes to what it comes to where every form is expanded, and each of its forms may begin where its turn comes
pub mod Programs  -- Each unit of a program begins so that its forms may be kept, whatever was worked on before it
pub mod WholePrograms  -- A program of which some forms are kept is the program
pub mod MayBeKept  -- What a form comes to where it may begin may be kept from there
