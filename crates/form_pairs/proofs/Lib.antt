pub mod SameTrees  -- When the trees of two data are the same, by their shapes
pub mod FrontLaws  -- How many forms are the same from the ends of two lists, xs they are counted one by one
pub mod UnitTexts  -- Units and forms as they are paired, one after another
pub mod PairLaws  -- The pairs of units, one unit after another
