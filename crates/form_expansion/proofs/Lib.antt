pub mod Live  -- Live nodes are no fewer in a work that keeps its trees
pub mod UnitForms  -- The forms of a unit by their numbers
pub mod FormAtWork  -- While an item is expanded its form stays at work, and work may turn to another form at any time between
pub mod BenchLaws  -- What calls leave of a bench adds up, and units stand in a work that has grown
pub mod FormSteps  -- What a step of one form leaves of the others, and what the form itself has then
pub mod DeclaredForms  -- What forms set aside stands, one form more at a time, and through steps of other forms
mod RefusedLaws  -- Forms of which those that include a text are refused stand for those of the definition
pub mod UnitWalk  -- Work on a unit one form or item at a time
pub mod OutsideWalk  -- Work on a unit one form at a time, where what is local is forgotten behind each
pub mod AnewSides  -- No step of an expansion that notes what it asks reads whether nothing was noted when its part began
pub mod FormNotes  -- What a form asks while what it set aside is expanded, item by item
pub mod FormsFinish  -- What a form set aside is expanded, once its macro uses are met
pub mod FormLoop  -- The loop over what a form set aside
pub mod FormsHold  -- Forms that were gone through are held, one more at a time
pub mod FormsFinished  -- What forms set aside is expanded, one form more at a time
pub mod FormsUnfold  -- What a unit's forms come to, once they were gone through and what they set aside was expanded
