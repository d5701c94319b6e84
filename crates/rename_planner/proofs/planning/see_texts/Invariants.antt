use Rattle.std.proofs.Common.{◌≡◌, ◌<◌, ◌≤◌, ℕ, List, length, slice_get, Some}
use Rattle.std.specs.FinMap.{entries}
use Rattle.ls_base.specs.Limits.{max_documents}
use Rattle.document_store.specs.Texts.{Document}
use Rattle.rename_planner.specs.Planning.{IsOpenText}
use Rattle.rename_planner.proofs.planning.see_texts.Given as goal

-- that of the texts gone through
abbrev pub invariant-loop-n : goal.invariant-loop-n
invariant-loop-n l = record {
  seen : (n : ℕ) (d : List ℕ × Document) → n < l.n → slice_get (entries l.texts) n ≡ Some d → IsOpenText d.1.1;
  few : 0 < l.n → length (entries l.texts) ≤ max_documents;
}
