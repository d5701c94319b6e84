pub mod TurnsAnew  -- Where every form is expanded, each turn that comes has around it what the form of that number that is worked on has
pub mod TurnsThere  -- Where some forms are kept, and what is local is forgotten, each turn that comes has around it what is outside where every form is expanded
