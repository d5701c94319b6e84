pub mod Yards  -- A pool of characters with one open region and a mark of it
