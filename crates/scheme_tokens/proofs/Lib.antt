pub mod Fronts  -- The longest front of a text in a class, and what follows it
pub mod GapLaws  -- How a gap goes on
pub mod WordLaws  -- Texts and ASCII letters, a character at a time
pub mod QuotedLaws  -- Elements between marks, one after another
pub mod HexLaws  -- Hex digits and the character whose code they write
pub mod TokenLaws  -- Words as tokens, and what comes next in a text
pub mod OneReading  -- The code reads a text in one way
pub mod SpellLaws  -- A spelled name is read back
pub mod GapLengths  -- A gap leaves no more characters than it began with
pub mod QuotedLengths  -- What stands between marks leaves no more characters than the text had
pub mod TokenLengths  -- A token takes a character at least
pub mod Same  -- What the code computes is what the grammar says
pub mod Readings  -- A text has one reading at most, and how one is put together
pub mod NameLaws  -- Names and the tokens that spell them
pub mod TokenCounts  -- A text has no more tokens than bytes
pub mod EveryText  -- Each text is read as tokens up to its end, or stops
pub mod Examples  -- One text of each kind of token, and one for each fault
pub mod Apart  -- The tokens of a text stand one behind another, and a text begins with one token at most
pub mod Decoded  -- Numbers in UTF-8, whether they are characters or not, are decoded to themselves
pub mod PartChars  -- The characters of libraries' texts
pub mod OnePart  -- A text begins with one part of a name at most, where a space or the closing parenthesis follows
pub mod NamesTold  -- Proper names with one text are one name
pub mod EveryName  -- A text for every name, proper or not
pub mod NameTrees  -- The name that a tree is has a part at least, and proper ones, where the tree's symbols are the bytes of their characters
pub mod StandardProper  -- The standard libraries' names are proper
