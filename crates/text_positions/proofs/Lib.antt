pub mod FirstLine  -- The first line of a text, character by character
pub mod LinesOf  -- The lines of a text, one character on
pub mod LineStarts  -- Where lines begin, character by character
pub mod Cuts  -- A text is cut where a line begins
pub mod Places  -- Offsets and positions by the starts of lines
pub mod MarkWalks  -- Marks within a line
pub mod MarkOrder  -- Marks in the order of the text, and what a search by halves finds among them
pub mod MarksNear  -- A mark, or the start of the line, is near each place of a text
pub mod ShortWalks  -- From the last mark a walk over a line is short
