use Rattle.std.proofs.Common.{◌≡◌, length, vec_len}
use Rattle.read_documents.specs.Changed.{Changes}
use Rattle.program_findings.proofs.StopsLaws.{ToldTo}
use Rattle.program_findings.proofs.diagnosing.tell_unread.Given as goal

-- the documents gone through that don't read have that alone, and the others are as they were
abbrev pub invariant-loop-place : goal.invariant-loop-place
invariant-loop-place l = record {
  count : vec_len l.findings ≡ length l.documents;
  told : Changes (ToldTo l.documents l.place) l.initial.findings.items l.findings.items;
}
