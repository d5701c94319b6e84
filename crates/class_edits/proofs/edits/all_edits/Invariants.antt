use Rattle.std.proofs.Common.{◌≡◌, ◌++◌, List, drop, take}
use Rattle.std.specs.BTreeMap.{get}
use Rattle.std.specs.FinMap.{entries}
use Rattle.read_documents.specs.Readings.{Read, AreReadAs, program_in}
use Rattle.text_edits.specs.Views.{occ_cmp}
use Rattle.class_edits.specs.DocumentEdits.{CanEditAll, seen}
use Rattle.class_edits.specs.Named.{edits_by}
use Rattle.class_edits.proofs.edits.all_edits.Given as goal

-- the edits of the documents gone through, before those that are left
abbrev pub invariant-loop-document : goal.invariant-loop-document
invariant-loop-document l = record {
  exact : (rs : List Read) → AreReadAs (entries l.texts) rs →
      seen l.all ++ edits_by (λ o. get occ_cmp l.members o) (program_in rs).units l.document (drop l.document (entries l.texts)) (drop l.document rs)
      ≡ edits_by (λ o. get occ_cmp l.members o) (program_in rs).units 0 (entries l.texts) rs;
  made : CanEditAll (take l.document (entries l.texts)) l.all;
}
