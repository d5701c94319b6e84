pub mod Counts  -- How a count of faults goes on
pub mod Sources  -- What a read takes and answers, and when it may say that it failed
pub mod Calls  -- What the calls of a stream took, one after another
pub mod Sinks  -- What a write takes and answers, and when it may say that it failed
pub mod Files  -- What a fetch answers, and when it may say that it failed
pub mod Plans  -- Which calls of an object in memory are to fail
pub mod Places  -- Where in its pieces an object in memory stands
pub mod Left  -- What pieces in memory have left to read
pub mod LeftLaws  -- What pieces in memory have left is pieces of 1 to 65,536 bytes
pub mod FilesInMemory  -- What files in memory hold, and what a copy of one gives
pub mod Told  -- What the objects in memory tell, and when they fail
pub mod SureTold  -- What the objects in memory that never fail tell
pub mod Adapters  -- What the adapters pass on of the bytes that a reader or writer of std knows
