pub mod ToldNotes  -- What is noted of a question where it is asked is the note of what is to be noted of it
pub mod MeansHere  -- What an identifier means where a form stands in a state outside of all others
pub mod GoodMoments  -- What a form makes and finds goes on to be its own
pub mod NotedOutcomes  -- A definition ends as it does by the form's own answers and the root's
pub mod NotedAsked  -- Where an expansion that notes goes with one that asks, what it notes when it is asked is told by the questions that are left
pub mod NotedDefined  -- Where an expansion that notes goes with one that asks, both define alike, and the definition is noted
pub mod NotedSides  -- An expansion with its questions, and one that notes what it asks, as two sides
pub mod NoteLaws  -- What an expansion notes of a form's first part, and of its second, is what is to be noted of the form's questions
pub mod NotesStay  -- Notes that have their answers in other surroundings of the form are what is to be noted there
pub mod ItemSides  -- What a form set aside defines in bodies alone, so what its part began with stays while it is expanded
pub mod TestedNotes  -- Where the notes of a form's start have their answers in other surroundings of the form, so have the questions, and the other way round
pub mod BehindNotes  -- An answer that is no definition's is read of the root
pub mod MomentsGrow  -- What a form has defined in its unit by a moment, with the macros of it, is the end of what it has defined later
pub mod BareNotes  -- Notes of the code don't tell the times at which bodies were entered
pub mod NoteRows  -- What small forms note, computed
pub mod OfForms  -- While all that is bound is of the form at work and counted, a definition that searches the notes that speak of its identifier ends as one that goes through all
pub mod SearchedTurns  -- A unit that forgets what is local comes to the same where its definitions go through the notes that speak of their identifiers alone
pub mod SearchedLaws  -- Each unit of a program may forget what is local while its definitions go through the notes that speak of their identifiers alone
