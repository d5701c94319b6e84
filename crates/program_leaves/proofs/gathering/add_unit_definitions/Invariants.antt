use Rattle.std.proofs.Common.{◌≡◌, take}
use Rattle.std.specs.BTreeMap.{get}
use Rattle.program_leaves.specs.declared.sight.GlobalNo.{GlobalNo}
use Rattle.program_leaves.specs.Placed.{global_cmp, forms_given, given_after}
use Rattle.program_leaves.proofs.gathering.add_unit_definitions.Given as goal

abbrev pub invariant-loop-form : goal.invariant-loop-form
invariant-loop-form l = (k : GlobalNo) → get global_cmp l.definitions k ≡ given_after (forms_given l.unit (take l.form-index l.forms)) k (get global_cmp l.fn.definitions k)
