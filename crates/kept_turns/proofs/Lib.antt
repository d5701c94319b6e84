pub mod Onward  -- What holds of where work went to, unless it ended
pub mod EachTurn  -- What holds at each turn of a unit
pub mod NextTurn  -- What holds at each turn of a unit holds at the turn of a form that is next
pub mod ItemMoments  -- While what a form set aside is expanded, what it makes is local, its nodes rise, and nothing is expanded behind a fault
pub mod RootsStay  -- The second part of a form leaves the root of its unit as it was, expanded or put into its place; behind the first part all macros that aren't local were defined outside all frames
pub mod PutWhole  -- Items that are put into their places one by one come to what they come to together, unless the nodes behind the last are too many
pub mod ClosedTurns  -- What is imported stands at each turn of a unit that forgets what is local
pub mod GrowingKept  -- One form more of a unit may be kept, in its first part, and then in its second, where it may be kept where its own turn comes and of those behind it nothing is kept
pub mod GrowingRests  -- The rest of one form more may be kept where it may be where its second turn comes, and of the rests behind it nothing is kept
