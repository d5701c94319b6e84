pub mod Told  -- A question that mentions some units alone has the same answer where each of these is the same
pub mod Turns  -- One turn of a form that mentions some units alone, where each of these is the same
pub mod Units  -- Two units with the same forms, each of which is kept and mentions some units alone
pub mod MentionedRows  -- What small forms mention, computed
pub mod OtherUnits  -- A unit at work leaves other units as they are
pub mod WorkedUnits  -- Along a program what a unit is to others stays once it was worked on, and a unit that wasn't has nothing
pub mod Forgetting  -- What a unit mentions is all one whether what is local is forgotten; and a form mentions what its noted questions do where it is expanded
