pub mod Turns  -- Places that stand once each
pub mod ImportedNames  -- What a unit imports, by the entries that it is given
pub mod KnownLaws  -- Which libraries there are, by the texts of their names that are listed
pub mod TurnSteps  -- One turn more
pub mod TurnWork  -- Work in turns
pub mod TurnedLaws  -- The turns of units where some are broken are the order in which the definition of a program works on them, and those that are too many come last and change nothing
pub mod TurnUses  -- The macro uses that are counted while units are expanded in their turns are those of the program (R7RS 4.3, 5.6)
pub mod TurnResults  -- What the program has of each unit, where they come in turns
pub mod TurnCited  -- One turn more, as what expands the units goes through their places
pub mod UnitGoes  -- The forms of a unit define nothing of other units, and leave what units import
pub mod PreludeOutside  -- In the prelude nothing is local, and its macros stand outside of all frames
pub mod TurnsForget  -- The unit whose turn it is may forget what is local, and the bench goes on behind it with what is outside of all forms
pub mod UnitCame  -- A unit is begun on a bench that goes on with what is expanded so far, and what its forms come to is the definition's
pub mod UnitLaws  -- A unit that is begun on a bench, and what its forms tell once they are expanded
pub mod NamesStay  -- What a unit defines, and what it names in its imports and exports, stays so while other units are expanded
pub mod UpTo  -- One turn more
pub mod UpToNext  -- The unit whose turn it is, broken or expanded
pub mod ProgramOf  -- The program of all units, each at its place
pub mod CollectLaws  -- Units that are put together by what they came to are those of the definition's program
pub mod ReadUnits  -- Units that were judged, as they are handed on to be expanded
pub mod UnitsFoundLaws  -- What is found of a unit is what the definition has of it, part by part, and later units change nothing of it
pub mod FoundNext  -- The unit whose turn it is, broken or expanded
pub mod TokensAlike  -- The tokens of documents are those of each reading of their texts
pub mod ToldProgram  -- The units of the whole program, by what came of them, what is found in them and what breaks them
pub mod HeadsStand  -- The heads of units that were listed are those of the program's units
pub mod HeadsOf  -- The heads of units have what the units do, as these were listed, judged and worked on
pub mod WorkedForms  -- The forms of a unit that are worked on are those of its source, unless it is a part; what comes of them stands for the unit's forms
pub mod LostStand  -- Strings of units that mean no text stand in one of the documents
pub mod UnitNumbers  -- The forms that a unit comes to have the numbers of those that are expanded (R7RS 5.1)
pub mod ProgramKept  -- The units of a program stand for the same in a work that has grown
pub mod WorkKept  -- What stood in a work still stands once a region is opened, the prelude is added and units are expanded
