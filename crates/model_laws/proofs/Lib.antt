pub mod RequirementLaws  -- Reading `cond-expand` commutes with a renaming that keeps symbols
pub mod QuasiLaws  -- Reading a quasiquotation commutes with a renaming under which each identifier marks the same
pub mod LeafLaws  -- The leaves of rules that mean something where their macro is defined, once each identifier is renamed
pub mod IdentKinds  -- Kinds of structures over identifiers
pub mod FrameNames  -- An image is its identifier, is told apart as it is, keeps its symbol, and means what the frames give
pub mod FrameTimes  -- What was made before a clock
pub mod FrameBodies  -- The law of one definition
pub mod FrameDefines  -- The law of one definition, in a body whose frames are well made
pub mod FrameEras  -- A unit that is worked on after others
pub mod FrameAsks  -- A name asks x exactly where, once x is replaced, it means x's number; and nothing means the next local's number before
pub mod FrameRoots  -- What stands in units, outside all frames
pub mod FrameComing  -- A look-up that comes to a body's definition of x
pub mod FrameStates  -- What the definition's side has of a state of the scoped side; what holds of a state; and what later states keep
pub mod FrameGrowth  -- A binder, the entry of a body, and a macro use
pub mod FrameLeaves  -- Trees each of whose identifiers was made by then, part by part
pub mod FrameAgrees  -- Both sides go together
pub mod FrameHeads  -- Heads, targets, places, macros and nodes
pub mod FrameUses  -- The laws of what a macro use compares, and of what it is met with
pub mod FrameInstances  -- The law of one macro use
pub mod FrameReaders  -- What both sides read of the parts of a form, whatever the row of the core forms
pub mod FrameOpen  -- A body that is open on both sides
pub mod UnitEnds  -- Where work on a unit ends
pub mod CountedOps  -- Expansion of one form over identifiers, frames and states that hold what is said of the form
pub mod CountedUses  -- Heads, targets, macro uses and counts
pub mod FrameHeld  -- Notes, forms, items and what is left of a body or a unit, over identifiers and places that hold something; and reading them
pub mod FramePlaces  -- A place whose forms are gone through, a body or a unit
pub mod FrameDefinitions  -- Definitions at a place
pub mod FrameBodyDefines  -- A definition in an open body
pub mod FrameBodyFacts  -- What an open body gives as a place whose forms are gone through
pub mod EntryLaws  -- What holds of what names mean, where units define and libraries export them, holds of what units import
pub mod FrameUnit  -- What a unit gives as a place whose forms are gone through
pub mod FrameBetween  -- Between two units
pub mod CountedForms  -- The forms of a body or a unit, gone through on the third side of counted expansion and on each other side alike
pub mod CountedRuns  -- A form gone through, whatever its head, and all forms of a body or a unit
pub mod CountedStates  -- A form of a unit as a setting of counted expansion
pub mod FrameExpressions  -- The law of expressions that hold no binder
pub mod FrameBinders  -- The law of binders
pub mod FrameMacros  -- The law of local macros
pub mod FrameSyntax  -- Definitions of macros, and uses of macros, at a place; both sides go on alike
pub mod FrameForms  -- The forms of a place, gone through in order
pub mod FrameItems  -- What was set aside, expanded
pub mod FrameQuasi  -- The law of quasiquotations
pub mod CountedExpressions  -- Expressions on the third side of counted expansion, and on each other side alike
pub mod FrameCoreForms  -- The law of an expression, whatever its form, over expanders that hold it of parts
pub mod FrameWhole  -- The law of expressions with bodies nested in them
pub mod FrameUnits  -- The law of units
pub mod CountedUnits  -- A unit expanded by counts is the unit expanded by whole numbers
pub mod FramePrograms  -- The law of programs
pub mod rows  -- The definitions on worked rows
