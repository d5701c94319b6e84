pub mod EventLaws  -- Both definitions of what events make of the texts are one
pub mod BodiesSay  -- No body is refused for want of memory by what it says
pub mod Evented  -- What an event of the workspace comes to in a session
pub mod CountedLaws  -- The steps that a message counts are the macro uses of its replies
pub mod OneAnswer  -- A question has one answer
pub mod SomeAnswer  -- Each question that a body asks has an answer
pub mod StepAsks  -- A step of a session asks for answers, and for what is news
pub mod BegunLaws  -- Before `initialize` no document is open
pub mod Refused  -- What a fault says is what the rename is refused with
