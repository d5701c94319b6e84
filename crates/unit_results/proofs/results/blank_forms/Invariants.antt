use Rattle.std.proofs.Common.{◌≡◌, All, length}
use Rattle.core_tree.specs.Units.{IsBlank}
use Rattle.unit_results.proofs.results.blank_forms.Given as goal

abbrev pub invariant-loop-place : goal.invariant-loop-place
invariant-loop-place l = All IsBlank l.forms × (length l.forms ≡ l._place)
