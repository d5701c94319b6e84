pub mod AtTurns  -- What has its answers where a form's turns come has them at the form that is worked on
pub mod OwnTurns  -- What a form comes to where its turns come is an entry, and what that asked has its answers at the form that is worked on
pub mod TurnsCame  -- Where work on a unit went through, each of its forms had both of its turns
pub mod ProgramsStay  -- A unit of a program is a program at each of its turns, or at none
pub mod WholeUnits  -- Where work on a unit went through, and at each turn all is kept that has its answers, each form that has them is kept whole
pub mod LeftEntries  -- Behind its turns each form has what has its answers at the form that is worked on
