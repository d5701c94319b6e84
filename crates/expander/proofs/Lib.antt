pub mod FormRows  -- Forms that are to be gone through, the first one last, stand for forms at a place, in order
pub mod DefinitionSteps  -- The steps of definitions
pub mod RecordSteps  -- The definition of a record type
pub mod DeclareLaws  -- A form of a unit is gone through, and what it set aside is expanded
pub mod HeldLaws  -- Of the pairs of a use that are compared those are handed on that held, and these tell exactly which literals mean the same
pub mod ShapeLaws  -- A core form as an expression is read as its shape, and then done as the shape is
pub mod FitLaws  -- What a core form binds, and the bodies in it, have no more parts than the form has nodes
pub mod ReadLaws  -- How an expression is read
pub mod RowLaws  -- Steps in a row, one for each of a list
pub mod AfterLaws  -- What the code has after a call that was made
pub mod CoreLaws  -- The parts of expressions, each by the steps that the code takes
pub mod PassSteps  -- A form that is gone through
pub mod WeightLaws  -- A core form that splices or defines hands on fewer nodes, or defines and binds fewer names, than it has nodes
pub mod PassLaws  -- How steps of forms that are gone through follow one another
pub mod ShapeKinds  -- A shape of the code that splices or defines stands for a shape of the same kind
pub mod ShapeParts  -- A shape of the code with parts that are to be expanded stands for a shape of the same kind, and what is demanded of these parts holds of them
pub mod HoleLaws  -- The datum of a quasiquotation is its tree with the holes taken out, also with symbols in place of identifiers
pub mod PassLoop  -- Forms that are gone through one after another
pub mod BodyPass  -- A body that is entered and gone through
pub mod RulesHeads  -- The heads of the rules of local macros, tested one after another
pub mod KeepLaws  -- Local macros that are kept under their binders, one after another
pub mod LocalDefs  -- Local macros with their leaves, one after another
pub mod UseSteps  -- A macro use gives a tree of at most 4,194,304 nodes, and defines nothing
pub mod SettleLaws  -- Macro uses at the head of an expression, one after another
pub mod UsePass  -- A macro use that is gone through
pub mod ShapePass  -- A core form that splices or defines, by the shape that the code has of it
pub mod PrepareLaws  -- An expression that was settled and read
pub mod BelowLaws  -- A core node whose parts stand one level deeper
pub mod LoopLaws  -- Loops that do steps in a row, whatever state the scopes of the code stand for
pub mod StepLaws  -- Steps that calls do, from whatever state and frames the scopes of the code stand for
pub mod ListLaws  -- A list that is read
pub mod FormLaws  -- A core form that was parsed
pub mod ExpandLaws  -- An expression that was settled and read is expanded
pub mod RowRuns  -- Loops that do a step for each of a list
pub mod KeptKinds  -- What was set aside in the code stands for an item of the same kind
pub mod BodyRuns  -- A body is gone through and then expanded; procedures and local macros, in whose scope one stands
pub mod FormRuns  -- Core forms with parts, each by the calls that the code makes for it
pub mod ItemRuns  -- What was set aside is expanded, each kind by the calls that the code makes for it
pub mod CycleCalls  -- What can be done after each call of the cycle of cores that was made
pub mod LooseLaws  -- What stands without notes stands for a state whose notes aren't told
pub mod PassForms  -- A form that is gone through, by its head
pub mod CorePass  -- A core form that is gone through
pub mod UseNotes  -- What a macro use asks, noted
pub mod RulesNotes  -- The rules of macros, looked up and read where what is asked is noted
pub mod MacroSteps  -- The definition of a macro
pub mod NotedPass  -- Where notes alone were changed before a step, forms are gone through as before
pub mod AskedRuns  -- Steps behind what was asked
pub mod LocalRuns  -- Local macros by the calls that the code makes for them
pub mod SetRuns  -- An assignment
pub mod PartLaws  -- A part of a form that notes what it asks
