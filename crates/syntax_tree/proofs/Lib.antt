pub mod Places  -- Lists by their places
pub mod TableLaws  -- What the tables of symbols and identifiers stand for, as they grow
pub mod TableSteps  -- The invariant of the tables of symbols and identifiers, kept at each call
pub mod ShorterTables  -- Tables that go back to their first symbols and identifiers
pub mod EntrySteps  -- What the insertion of an identifier makes of the tables, whether it is there or not
pub mod SeenLaws  -- What is found in a map of which something is seen
pub mod NodeLaws  -- The nodes as a map, without the measures that the pool keeps with them
pub mod OrderLaws  -- An identifier that was inserted comes behind what it is made of
pub mod PartLaws  -- The parts of a node, one after the other, and the measures at their numbers
pub mod StandingLaws  -- What numbers stand for
pub mod RegionLaws  -- Regions that outlive others, and what their nodes may name
pub mod OuterLaws  -- The open regions with the lists of those that outlive them
pub mod KeptLaws  -- The measures that are kept are those of the trees that numbers stand for
pub mod AddedLaws  -- Adding a node to the table
pub mod EndLaws  -- What is left where a region goes back or ends
pub mod PlaceLaws  -- Nodes whose places change
pub mod WorkLaws  -- What the calls of a work leave standing
pub mod Looking  -- Rows of trees by their numbers
pub mod TreePlaces  -- Where the trees of leaves stand
pub mod TestLaws  -- Laws of tests
pub mod InternLaws  -- Tables that grow by what isn't in them yet, and identifiers as the definitions see them
pub mod RoleLaws  -- Identifiers by number
