use Rattle.std.proofs.Common.{◌<◌, ◌≤◌, take, length}
use Rattle.std.specs.FinMap.{entries}
use Rattle.ls_base.specs.Limits.{max_documents}
use Rattle.read_documents.specs.Readings.{AreDocuments}
use Rattle.read_documents.specs.DataRead.{AreReadIn}
use Rattle.read_documents.proofs.documents.read.Given as goal

-- the first documents are read
abbrev pub invariant-loop-n : goal.invariant-loop-n
invariant-loop-n l = record {
  front : AreDocuments (take l.n (entries l.store)) l.documents.items;
  read : AreReadIn l.documents.items;
  few : 0 < l.n → length (entries l.store) ≤ max_documents;
}
