pub mod RootLaws  -- What identifiers mean outside of all forms, by the code's scopes, and whether it is what a note tells
pub mod AllLaws  -- All notes have their answers, where each of the code's has it
pub mod EditionsKept  -- A macro of the rules that a note tells has the note's edition, where editions go on
