use Rattle.std.proofs.Common.{◌≡◌, ℕ, List, take}
use Rattle.std.specs.List.{filter}
use Rattle.scheme_model.specs.Included.{Given}
use Rattle.included_forms.specs.Counted.{Stand, gives}
use Rattle.included_forms.proofs.counting.giving_steps.Given as goal

abbrev pub invariant-loop-step : goal.invariant-loop-step
invariant-loop-step l = (limit : ℕ) (gs : List Given) → Stand limit gs l.parts → l.giving.items ≡ filter (gives gs) (take l.step-index l.steps)
