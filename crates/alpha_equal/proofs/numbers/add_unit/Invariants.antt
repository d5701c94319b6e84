use Rattle.std.proofs.Common.{◌≡◌, take}
use Rattle.std.specs.BTreeMap.{get}
use Rattle.program_leaves.specs.declared.sight.GlobalNo.{GlobalNo}
use Rattle.program_leaves.specs.Placed.{global_cmp, forms_given}
use Rattle.alpha_equal.specs.Numbered.{number_after}
use Rattle.alpha_equal.proofs.numbers.add_unit.Given as goal

abbrev pub invariant-loop-form : goal.invariant-loop-form
invariant-loop-form l = (k : GlobalNo) → get global_cmp l.numbers k ≡ number_after (forms_given l.unit (take l.form-index l.forms)) k (get global_cmp l.fn.numbers k)
