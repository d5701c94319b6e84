pub mod Outsides  -- Surroundings without what is local
pub mod Asks  -- A form asks for the rules of no local macro
pub mod OneTurn  -- One turn of a form in surroundings without what is local
pub mod Turns  -- A unit worked on in a way that follows the work in which every form is expanded
pub mod Followed  -- Two ways follow the work in which every form is expanded
pub mod Anew  -- The work in which every form is expanded is the definition's, each form may begin in it, and a unit of which forms are kept is one of these ways
pub mod Units  -- Each unit of a program may forget what is local, whatever was worked on before it
pub mod StaysOutside  -- Where what is local is forgotten behind each turn, nothing local is there when the next one comes
pub mod WholePrograms  -- A program may forget what is local
pub mod ForgottenRows  -- Small units that forget what is local, computed
