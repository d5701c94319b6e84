use Rattle.std.proofs.Common.{◌≡◌, ◌≤◌, List, length, drop}
use Rattle.scheme_model.specs.Included.{Given}
use Rattle.included_forms.specs.Counted.{Stand, tally_as, tally_of, all_given}
use Rattle.included_forms.proofs.counting.count_steps.Given as goal

abbrev pub decreases-loop-left : goal.decreases-loop-left
decreases-loop-left l = l.left

abbrev pub invariant-loop-left : goal.invariant-loop-left
invariant-loop-left l = record {
  within : l.left ≤ length l.steps;
  counted : (gs : List Given) → Stand l.limit gs l.parts → tally_as l.behind ≡ tally_of (all_given l.limit gs (drop l.left l.steps) l.bad);
}
