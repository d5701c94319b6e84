pub mod ByteLaws  -- The numerals of bytevectors
pub mod StackLaws  -- The stack as the code keeps it, outermost first
pub mod DatumLaws  -- What data of the code stand for, by their shapes
pub mod StepLaws  -- What one token changes, with the frame on top taken off
pub mod TokensSeen  -- Tokens as data see them are those that scheme_tokens tells
pub mod Passing  -- What is open behind data as they are written
pub mod Begun  -- Data that are partly written
pub mod Completing  -- A datum that is complete, among data that are partly written
pub mod Reaching  -- What reading goes through are data that are partly written
pub mod Ending  -- Data that are partly written can be written to an end
pub mod Refusing  -- Why a token is refused, and the state that reading is in where it is
pub mod PassingBegun  -- Reading data that are partly written leads to their state
pub mod ReadLaws  -- What reading a text answers, by the tokens that it has
pub mod Stops  -- A text is data exactly where reading says so, and else it stops where reading stops
pub mod Measured  -- The size and the depth of a datum's tree
pub mod Sizes  -- The tree of a datum has at most twice as many nodes as the datum tokens
pub mod Depths  -- The tree of a datum is at most one deeper than what is open while the datum is read
pub mod ReadParts  -- What was read
pub mod WellFormedLaws  -- What is read from a text of at most 1,048,576 bytes is what a tree can be made of
pub mod Growing  -- What added nodes and names leave, and how that adds up
pub mod LeafLaws  -- Nodes without parts, and the trees that they are of
pub mod Joining  -- Texts with one space between each two
pub mod Rows  -- Trees in a row, one more at a time
pub mod SeedLaws  -- The tree of a datum of the code by its shape, and what its parts are
pub mod FormLaws  -- The tree of a datum with its names changed is its tree with the changed names
pub mod Preparing  -- The outermost node of a tree, behind the trees of its parts
pub mod NamePlaces  -- The identifiers of a datum's tree were read from the name tokens at their places
pub mod LookLaws  -- What is seen of data, and the trees of symbols that they are
pub mod DataRows  -- Data in a row, by what ends it
