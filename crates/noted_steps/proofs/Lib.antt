pub mod PlainSides  -- An expansion that notes what it asks, and the same without notes, as two sides
pub mod NoteLaws  -- A form's notes alone change
pub mod PartBegins  -- A part of a form begins
pub mod EditionLaws  -- The editions of macros tell their rules behind a step
pub mod CountingStands  -- What is counted and what is met
pub mod AskedLaws  -- Questions that are asked one list behind another
pub mod OutcomeLaws  -- How steps follow one another while what is asked is noted
pub mod NodeLaws  -- A core node that begins, and nodes that are counted, while what is asked is noted
pub mod Lifts  -- What a step does without notes it does with them
pub mod BindersStand  -- Names bound to locals in a new scope, and fields, while what is asked is noted
pub mod BodiesStand  -- A body that is entered, and what its scope binds, while what is asked is noted
pub mod KeptStands  -- A macro that is kept while what is asked is noted
pub mod UseLaws  -- A macro use of which the comparisons were asked before, and rules that are read where they are defined
pub mod UsesMet  -- Macro uses that waited are met, one after another, and what their literals mean is noted
pub mod DefineSteps  -- A definition while what is asked is noted
pub mod RulesLaws  -- The rules of macros while what is asked is noted
pub mod MarkLaws  -- What the heads within a quasiquotation mark, asked one after another (R7RS 4.2.8)
pub mod LibraryLaws  -- The libraries that the requirements of a `cond-expand` ask for, one after another (R7RS 4.2.1)
pub mod FormLaws  -- What a core form asks before it is read, by its keyword
