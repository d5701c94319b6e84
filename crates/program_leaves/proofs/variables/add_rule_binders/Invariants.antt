use Rattle.std.proofs.Common.{◌≡◌, ◌++◌, take}
use Rattle.std.specs.List.{flat_map}
use Rattle.scheme_model.specs.ProgramArrows.{places_at}
use Rattle.syntax_tree.specs.declared.rules.Named.{Named}
use Rattle.program_leaves.proofs.variables.add_rule_binders.Given as goal

abbrev pub invariant-loop-variable : goal.invariant-loop-variable
invariant-loop-variable l = l.places.items ≡ l.fn.places.items ++ flat_map (λ (n : Named). places_at n.occ) (take l.variable-index l.variable-items)
