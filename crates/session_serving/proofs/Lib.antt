pub mod Sessions  -- Sessions over bodies that come one after another
pub mod OneOutput  -- A stream has one output, and messages that begin it are its front
pub mod AnswerLaws  -- Bodies that are answered one after another
pub mod Pieces  -- Pieces that are read one after another, and the bodies that they complete
pub mod SessionSoFar  -- A session that goes on, read by read
pub mod PieceEndsSession  -- How a session ends in a piece
pub mod QuietLaws  -- No step is counted over quiet bytes
pub mod CountLaws  -- The macro uses that are counted over bodies and pieces
pub mod Uncancelled  -- A session that doesn't look ahead is that of the bytes of its pieces
pub mod SomeOutput  -- Each stream has an output
pub mod OneCount  -- What a session counts is told by what it read, unless memory ran out or a write failed
