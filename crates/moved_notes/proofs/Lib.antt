pub mod NotedMoved  -- What is to be noted of questions is the same under other numbers
