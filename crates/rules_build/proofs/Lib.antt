pub mod BuildLaws  -- Laws of building
pub mod PlanViews  -- What a plan is a draft of, by its variant
pub mod DraftLaws  -- Drafts in a row, what is left when nodes are counted, and plans that are put together
pub mod DraftRows  -- Drafts in a row from a place on, and how many nodes and how deep they are
pub mod PairLaws  -- Two lists side by side
pub mod ValueLaws  -- What bindings stand for at the places of an ellipsis
pub mod NameLaws  -- Identifiers that stand in a template, by number
pub mod IndexLaws  -- What variables stand for, by number
pub mod PlaceLaws  -- The places of bindings whose variables are among some, and the bindings at them
pub mod WalkLaws  -- The walk over a template, step by step
pub mod AddLaws  -- What adding nodes leaves, one after another
pub mod MeasureLaws  -- Sizes and depths of drafts, part by part
pub mod WholeLaws  -- How building of a whole template ends, by what its walk and its measures say
pub mod EndLaws  -- The ends of lists that are planned, and the plans of identifiers
pub mod Tails  -- Tails by number, and rows of ellipses
pub mod PlanSizes  -- Plans are larger than their parts
pub mod AddSteps  -- The steps by which the nodes of a plan are added
pub mod WholeSteps  -- The plan of a whole template, and the instance that is built of it
pub mod BuildSteps  -- How building ends, by what its plan says and what adding the plan's nodes leaves
pub mod WalkSteps  -- The arms of the walk over a template
pub mod RowLaws  -- What the bindings of one variable say, and which bindings of few stand in a part of a template
pub mod RowSteps  -- The plans of the values of a variable, one after another
