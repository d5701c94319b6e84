use Rattle.std.proofs.Common.{◌≡◌, ℕ, List, take}
use Rattle.std.specs.BTreeMap.{get_by_text}
use Rattle.program_differences.specs.Exported.{asked_at}
use Rattle.program_differences.proofs.exports.asked_in.Given as goal

abbrev pub invariant-loop-change : goal.invariant-loop-change
invariant-loop-change l = (s : List ℕ) → get_by_text l.asked s ≡ asked_at l.unit (take l.change-index l.changes) s
