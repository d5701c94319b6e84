pub mod ReplayLaws  -- A recorded session, as a source tells it
pub mod Obeyed  -- A command ended, so it ended as that command does
pub mod Causes  -- What the number of a run tells of its cause
pub mod OneCount  -- What a run counts is told by its words, by what it read and wrote, and by its number, unless memory ran out or a write failed
