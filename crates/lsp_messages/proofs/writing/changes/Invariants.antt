use Rattle.std.proofs.Common.{◌≡◌, drop, string_cmp}
use Rattle.std.specs.List.Sorted.{IsStrictlySortedBy}
use Rattle.std.specs.Map.{keys_of}
use Rattle.serde_json.specs.Data.{Members, no_members}
use Rattle.lsp_messages.specs.Replies.{with_documents}
use Rattle.lsp_messages.specs.Written.{HoldTexts}
use Rattle.lsp_messages.proofs.writing.changes.Given as goal

-- the documents so far, with those that are left
abbrev pub invariant-loop-document : goal.invariant-loop-document
invariant-loop-document l =
    (found : Members) × HoldTexts l.documents.entries found × (with_documents found (drop l.document-index l.edits) ≡ with_documents no_members l.edits) × IsStrictlySortedBy string_cmp (keys_of l.documents.entries)
