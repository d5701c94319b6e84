pub mod Renumbered  -- What is kept of a form in surroundings under new numbers is what was kept there, under the new numbers; so an entry stays one
pub mod Alone  -- Where work on a unit doesn't end in a form, the form goes to where it goes alone; and where no form's nodes are counted, work doesn't end
pub mod AtWork  -- The forms of a unit at work, each gone through and then expanded
pub mod Staying  -- Entries that have their answers where the forms of a unit are gone through and expanded anew have them where these are kept, one form behind another
pub mod StayingPrograms  -- So it is in a program, unit by unit
pub mod CarriedStays  -- A form that asks alike before and after under some numbers may be kept there, of what it came to before under these numbers
pub mod StaysOn  -- An entry that may stay in a program may stay in the next one too, where its form asks alike before and after
pub mod BrokenForms  -- A form that is broken when it is gone through uses no macro later
pub mod Bound  -- Where all carried forms are kept, no more macro uses are worked than the work of the event
pub mod Places  -- What stands at a place of a list
pub mod PairsSend  -- Pairs send what goes on to what it goes on as
pub mod FormsSame  -- Forms that are paired have the same tree
pub mod EndsKeep  -- Where forms of a kind stand at the same places of two texts with the same trees, pairs by the ends keep the places of those that they pair
pub mod TreesSame  -- Where the trees of two texts are the same but for their homes, the tree of one as a form is that of the other under the numbers of these
pub mod FormsWritten  -- A form at work is a form of its unit, as its text has it
pub mod HomeTrees  -- The tree of a form that goes on is the one before under any numbers that send its unit, and the homes of forms, to what they go on as; and homes of included forms are told by their uris
pub mod CarriedOver  -- Each carried form may be kept
pub mod WorkedOnce  -- No two units at work have one number, nor two forms of one of them; so each form at work is found by its unit and its number
pub mod CarriedKeeping  -- Exactly the carried forms may be kept, and then no more is worked than the work of the event
pub mod GoingOn  -- What is kept of units are entries, under new numbers, where it stays, and where forms are expanded
pub mod KeepingRows  -- Small programs of which exactly the carried forms are kept, computed; and a part whose forms have other numbers where they are included than in the part
pub mod ClosedForms  -- What is imported stands at both turns of each form at work, and under new numbers too
pub mod NotedEntries  -- Where what is noted of an entry has its answers, all that was asked has
pub mod MovedNumbers  -- An entry stays one with other numbers of the unit's definitions
