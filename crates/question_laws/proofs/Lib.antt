pub mod Roots  -- What an identifier means at the root where the form's own definitions stand before those of its surroundings
pub mod AskingRuns  -- What holds of a form with its questions when it begins holds when it ends, where each step that asks, keeps a macro or defines leaves it so
pub mod OwnRuns  -- Whatever a form has defined by a moment was a definition that stood, among its questions
pub mod NotedAnswers  -- Each question has the same answer in two surroundings exactly where what is noted for it has
pub mod Closed  -- What is imported, and what a macro is kept for, still stands where what a form has made and found is put
pub mod NotedRows  -- What is noted for small forms, computed
pub mod ClosedSteps  -- Each step of expansion leaves standing what is imported, and what a macro is kept for
pub mod ClosedPrograms  -- What the units of a program import, and what a macro is kept for, stands where each of them begins
pub mod NotedFirst  -- The second part of a form defines nothing, so all that is noted for it is asked when it begins; and so is all that is noted for its first part but for that in which its own definitions have a part
