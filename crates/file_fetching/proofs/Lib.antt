pub mod FetchLaws  -- Files that are fetched one after another
