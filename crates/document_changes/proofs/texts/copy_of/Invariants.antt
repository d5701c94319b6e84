use Rattle.std.proofs.Common.{◌≡◌, ◌<◌, ◌≤◌, take, length}
use Rattle.std.specs.FinMap.{entries}
use Rattle.ls_base.specs.Limits.{max_documents}
use Rattle.document_changes.proofs.texts.copy_of.Given as goal

-- the first documents are copied
abbrev pub invariant-loop-n : goal.invariant-loop-n
invariant-loop-n l = record {
  front : entries l.copy ≡ take l.n (entries l.store);
  few : 0 < l.n → length (entries l.store) ≤ max_documents;
}
