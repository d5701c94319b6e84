pub mod ChainLaws  -- The binders of frames give the meanings that frames give
pub mod HeadLaws  -- What the head of a form is, by what the code was told
pub mod MacroLaws  -- One macro more
pub mod BindLaws  -- Names are bound one after another
pub mod CountingStands  -- What is counted and what is met
pub mod LayoutLaws  -- A layout with one scope more, and a newest scope with one binder more
pub mod BindersStand  -- Names bound to locals in a new scope
pub mod BodiesStand  -- Bodies
pub mod KeptStands  -- Macros that are kept
pub mod UsesStand  -- A macro use that begins
pub mod GrowthStands  -- Trees, symbols and identifiers are added
pub mod FormsStand  -- Work goes to another form
pub mod NumberedLaws  -- Definitions of units by their numbers
pub mod UnitsStand  -- A definition of the unit
pub mod DefinedMacros  -- Definitions of the operation `define`
pub mod BodyScopes  -- What the scope of a body binds itself
pub mod ComingDefinitions  -- What identifiers would mean with a definition that is about to be made, and what they mean by the scopes that stand
pub mod FormsDefine  -- The definitions that the traces of a unit's forms tell are those of the unit, where the forms were gone through in order
pub mod AskLaws  -- The notes that ask an identifier
pub mod AskedSearch  -- A search through the notes that ask an identifier finds what a search through all notes finds that asks for it
pub mod ToldLaws  -- What the code tells of forms that were misread, and of rules that are none, is the fault of the definition
pub mod OutcomeLaws  -- How steps follow one another
pub mod OpenedStand  -- A unit is begun
pub mod ImportLaws  -- The imports of a unit, bound one after another, and the unit once all are bound
pub mod RestLaws  -- Between two calls, when no form is at work
pub mod NodeLaws  -- A core node that begins, and nodes that are counted
pub mod SearchedNotes  -- The notes that speak of an identifier, by their numbers
pub mod DefineLaws  -- A definition where forms are gone through
pub mod MadeLaws  -- A definition that stands
pub mod NotesStand  -- Notes stand for the same where the work has grown, and one more is the newest
pub mod CallLaws  -- Work goes to a form and comes back
pub mod PreludeLaws  -- The prelude's unit
pub mod MatchLists  -- Lists that match one by one, as far as a loop has come
pub mod MeantSame  -- Equal meanings of the code are those of identifiers that mean the same
pub mod ChangedNotes  -- What a note asked, and whether a definition that is about to be made would have it told otherwise
pub mod UseLaws  -- A macro use, step by step
pub mod UsesMet  -- Macro uses that waited are met, one after another
pub mod UseSizes  -- A use gives a tree of at most 4,194,304 nodes
pub mod SyntaxLaws  -- The rules of macros where they are defined, by what the code was told
pub mod CoreStandLaws  -- What stood for a core, a part, a clause or what was set aside in a work still does in one that grew
pub mod FreshLaws  -- A unit that was begun just now
pub mod WithinLaws  -- Notes and macros are in scopes that are no newer than one
pub mod EditionStands  -- The editions of macros tell their rules where names are added and another unit begins, and where one macro more is kept
pub mod PreludeEditions  -- A macro of the prelude's unit that is added has the next edition, which tells its rules
pub mod ForgottenLaws  -- Units stand for the same once what is local to their forms is forgotten, without what was local
