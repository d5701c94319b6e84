use Rattle.std.proofs.Common.{◌+◌, ◌≤◌, length, take, string_cmp}
use Rattle.std.specs.BTreeMap.{IsOrdered}
use Rattle.program_answers.specs.Updates.{list_at}
use Rattle.program_answers.proofs.PublishLaws.{SoFar, version_among}
use Rattle.program_answers.proofs.lists.published.Given as goal

-- what is published of the documents gone through
abbrev pub invariant-loop-document : goal.invariant-loop-document
invariant-loop-document l =
    SoFar l.changed (list_at l.before) (list_at l.now) (version_among (take l.document-index l.documents)) l.all
    × IsOrdered string_cmp l.all × (length l.all.entries ≤ l.document-index + 1)
