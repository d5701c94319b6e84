pub mod PartLaws  -- What is taken of a form that was gone through stands for what it left in its unit
pub mod EachLaws  -- What holds of each of a list holds of all that it contains
pub mod NextMoments  -- The definitions that are noted of a form
pub mod SpokenRoot  -- A note at the root that is told otherwise by a definition of the unit has its identifier, or one that uses inserted in its place
pub mod Settled  -- What isn't local of a form's surroundings and of what it has made by a moment; the code's scopes stand for it whatever the forms have counted
pub mod LaterNotes  -- A note that is no definition's
pub mod SameEnds  -- A definition of a form ends where it is declared again as it does by the questions of the form; and one that stands is the form's next
pub mod MadeNext  -- The form's next definition is made
pub mod UndoneLaws  -- Definitions that are taken back
pub mod StartGoing  -- Where a form begins to be declared again, nothing is made yet; where all its definitions are made, the unit stands for the state behind it
pub mod OwnLaws  -- A form's own notes, in the unit's own scope
pub mod FormFacts  -- What is known of the noted questions of a form that is declared again
pub mod GoNext  -- The next definition of a form that is declared again
pub mod EndsLaws  -- A definition is refused by the form's own notes, or by those of its unit before the form
pub mod Stepping  -- A note of a definition, where a form is declared again
pub mod LaterGoing  -- A note that is no definition's, where a form is declared again
pub mod StoodMacros  -- A definition that stood as a keyword's is that of a macro, whatever stood behind it
pub mod NotedMacros  -- A macro that a form noted to be defined is there behind the form
pub mod EditionLaws  -- A macro of the open unit has another edition
pub mod NumbersKept  -- Definitions that are made again leave the editions of macros that stood, and give those of the form their own
pub mod GoOn  -- A form's next definition is made
pub mod EndGoing  -- All notes of a form tell what they told, and all its definitions are made again; or one doesn't
pub mod DoneLaws  -- What a form that is declared again leaves in its unit, or one that isn't
