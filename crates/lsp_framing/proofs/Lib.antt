pub mod Reading  -- What the machine makes of fields as they are written
pub mod ReadSoFar  -- What the machine has read where it stands
pub mod Peels  -- How the machine goes on from a part of what stands before a body, and how each such part can be completed
pub mod Streams  -- How the machine meets streams of frames
pub mod FirstFits  -- Which fault a wrong byte is
pub mod Stands  -- Where a deframer stands, the reading of the bytes so far is what it gave and keeps
pub mod Going  -- Pieces go in one after another
pub mod Feeding  -- The reading of bytes and of more bytes
pub mod OneReading  -- A stream has one reading
pub mod FeedLaws  -- What `feed` owes
pub mod Written  -- A frame that is written is one, and is read again
pub mod EveryReading  -- Every stream has a reading
pub mod Cuts  -- How a stream is cut doesn't matter
