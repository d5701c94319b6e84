mod MeaningLaws  -- Meanings of the code are the same where those that they stand for are
mod OriginLaws  -- Origins of the code, put together, stand for origins put together
pub mod EntryLaws  -- What modifiers make of entries of the code stands for what they make of the entries
pub mod GatherLaws  -- Entries of the code, put together, stand for the entries put together; and where a name stands among them
pub mod SetLaws  -- What an import set of the code gives stands for what the import set gives
pub mod SecondLaws  -- The second identifiers of the pairs that a set of the code renames by are those of the set that it stands for
pub mod NameLaws  -- Sets of names, and the first name that isn't in one
mod PlaceLaws  -- The place of a name among entries that are put together, and what an entry more does there
mod KeyLaws  -- Sets of origins by their keys
pub mod FirstLaws  -- The first place of each name, one more of them
pub mod ReachLaws  -- What units import, directly or not, in as many steps as there are units, is closed
mod HeldPlaces  -- Sets of places, and lists of the same places
pub mod WalkLaws  -- Going through what units import
pub mod CircleLaws  -- The units that import themselves, directly or not
pub mod TurnLaws  -- The units in their turns
mod ImporterLaws  -- For each unit those that import it
mod WaitLaws  -- The first of the waiting units is taken out
mod StepLaws  -- One turn
