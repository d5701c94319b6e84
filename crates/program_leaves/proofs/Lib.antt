pub mod SeenLaws  -- The leaves of a core of the code, case by case
pub mod LeafLaws  -- The leaves of a core of the code are those of the core that it stands for
pub mod AddLaws  -- What was added to a list, one thing after another
pub mod Growing  -- Lists that grow, by what their items stand for
pub mod Ends  -- Tails by number, and what stands at a place of a list
pub mod MemberLaws  -- Members of lists, by recursion
pub mod QuotedLaws  -- What is gathered of leaves of which those of quoted names give nothing
pub mod PlacedLaws  -- The leaves of a program of the code are those of the definition's program
pub mod ToldLaws  -- Keywords, matched literals and names of a program of the code stand for those of the definition's program
pub mod LocalLaws  -- Where locals stand, by the leaves of the code and by those of the definition
pub mod KeyLaws  -- Keys that are one, and maps by keys of which the first or the last counts
pub mod GivenLaws  -- Where definitions stand, by the code and by the table of the definition's program
pub mod VariableLaws  -- The variables of patterns and their places in templates, by the names of trees
pub mod LiveLaws  -- What is live, by the leaves, the uses and the names of the code
pub mod StepLaws  -- One step more of the walks that gather arrows
pub mod HoleLaws  -- Walks over data with holes
pub mod Orders  -- Lists that were sorted and of which each item was kept once; the orders of occurrences and of pairs
pub mod SightLaws  -- Where what binds a global meaning stands
pub mod EntryLaws  -- Entries by name, of one unit and of a program
pub mod PlaceSteps  -- Places that are added behind others, and those of pattern variables
