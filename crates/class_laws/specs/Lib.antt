pub mod Joined  -- Which occurrences links join, over others or not
