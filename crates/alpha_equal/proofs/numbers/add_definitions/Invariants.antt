use Rattle.std.proofs.Common.{◌≡◌, take}
use Rattle.std.specs.BTreeMap.{get}
use Rattle.program_leaves.specs.declared.sight.GlobalNo.{GlobalNo}
use Rattle.program_leaves.specs.Placed.{global_cmp, given_by}
use Rattle.alpha_equal.specs.Numbered.{number_after}
use Rattle.alpha_equal.proofs.numbers.add_definitions.Given as goal

abbrev pub invariant-loop-binder : goal.invariant-loop-binder
invariant-loop-binder l = (k : GlobalNo) → get global_cmp l.numbers k ≡ number_after (given_by l.unit (take l.binder-index l.binders)) k (get global_cmp l.fn.numbers k)
