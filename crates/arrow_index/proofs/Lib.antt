pub mod ArrowLaws  -- The arrows that the code gathers are the arrows of the definition's program
pub mod BinderLaws  -- What binds in a program, by the leaves and the definitions of the code; the binders of an occurrence
pub mod LinkLaws  -- Links of one after another
pub mod IdentLaws  -- The walk from an identifier to what spells it
pub mod SpelledLaws  -- The links that the code gathers are those of the definition's program; the order of links
pub mod LinkOrders  -- The order of links
pub mod TargetLaws  -- The origins of a use, by what its meaning is
pub mod ClassLaws  -- The class of an occurrence, which comes in as many rounds as there are links, is the least set that holds the occurrence and is closed under links both ways
pub mod QueryLaws  -- The uses of a binder among pairs in order
pub mod ClassWalks  -- Going from an occurrence over links
pub mod ClassParts  -- The parts of a class and its standard names
pub mod PartSearch  -- Whether an occurrence has a part, found by the order of parts
pub mod AccessLaws  -- Where a program is written and read, by the leaves and the forms of the code
pub mod SearchLaws  -- Whether an occurrence is among some in order, by a binary search
