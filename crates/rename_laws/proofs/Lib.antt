pub mod OwnDefinitions  -- The forms of a unit define nothing of other units
pub mod GivenLaws  -- Each export of a unit is given by an export declaration of its name
pub mod ErrorLaws  -- A unit has Errors by its diagnostics exactly where it has some by its forms
pub mod UnitErrors  -- Each unit of a program has as many import sets as its forms have, so its Errors by diagnostics and by forms are one
