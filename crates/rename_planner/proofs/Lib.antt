pub mod ReadingLaws  -- The macro uses of documents that are read so
pub mod BindLaws  -- Conditions one behind another
pub mod StepLaws  -- The conditions one by one, from what the code's calls say
pub mod ErrorLaws  -- The Errors of units in reach, unit by unit
pub mod ChangeLaws  -- The exports that are to change are those of the definition
pub mod NamedLaws  -- The conditions on names one behind another
pub mod PlannedLaws  -- The conditions on a class and its edits one behind another
pub mod CompareLaws  -- The program that there is and that of edited texts can be compared, and what is found is told so
pub mod UsesLaws  -- The macro uses that a rename counts are those of the edited texts, once these are expanded
pub mod RenameLaws  -- What is planned and compared is the rename
pub mod LoopLaws  -- Units and exports one by one
pub mod PrepareLaws  -- Nothing is prepared exactly where no identifier is bound or a standard name spells it
