use Rattle.std.proofs.Common.{◌≡◌, ◌<◌, ◌≤◌, take, length}
use Rattle.std.specs.FinMap.{entries}
use Rattle.ls_base.specs.Limits.{max_documents}
use Rattle.document_changes.specs.Edited.{edited_documents}
use Rattle.document_changes.proofs.edited.edited_store.Given as goal

-- the first documents are added, edited
abbrev pub invariant-loop-n : goal.invariant-loop-n
invariant-loop-n l = record {
  front : entries l.store ≡ take l.n (edited_documents l.encoding l.edits (entries l.texts));
  few : 0 < l.n → length (entries l.texts) ≤ max_documents;
}
