use Rattle.std.proofs.Common.{◌≡◌, drop}
use Rattle.document_changes.specs.Edited.{edits_for}
use Rattle.document_changes.proofs.edited.edits_for.Given as goal

-- none of those gone through is of the document
abbrev pub invariant-loop-document : goal.invariant-loop-document
invariant-loop-document l = edits_for l.edits l.uri ≡ edits_for (drop l.document-index l.edits) l.uri
