use Rattle.std.proofs.Common.{◌≡◌, ◌<◌, ◌≤◌, ℕ, slice_get}
use Rattle.std.specs.FinMap.{keys, len}
use Rattle.ls_base.specs.Limits.{max_documents}
use Rattle.program_rows.proofs.programs.have_same_uris.Given as goal

-- the uris before the nth are the same
abbrev pub invariant-loop-n : goal.invariant-loop-n
invariant-loop-n l = record {
  same : (k : ℕ) → k < l.n → slice_get (keys l.one) k ≡ slice_get (keys l.other) k;
  few_one : 0 < l.n → len l.one ≤ max_documents;
  few_other : 0 < l.n → len l.other ≤ max_documents;
}
