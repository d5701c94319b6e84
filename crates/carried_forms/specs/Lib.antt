pub mod Alike  -- Whether trees, rules and answers are equal, places and all
pub mod Paired  -- Which units and forms of a program go on in the next one, by their texts alone, and which numbers they have there
pub mod Worked  -- The units of a program that are worked on, each form with what is around it at its two turns, and what it counted
pub mod Carried  -- The forms that are carried from a program to the next, since what they ask of what is around them has the same answers there, and the work of an event
