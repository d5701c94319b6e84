use Rattle.std.proofs.Common.{◌≡◌, ◌++◌, map, drop}
use Rattle.core_tree.specs.Units.{definitions_from}
use Rattle.unit_imports.proofs.defined.definitions.Given as goal

-- the definitions so far and those that are left
abbrev pub invariant-loop-place : goal.invariant-loop-place
invariant-loop-place l = l.all.items ++ definitions_from l.place (drop l.place (map (λ form. form.now) l.forms)) ≡ definitions_from 0 (map (λ form. form.now) l.forms)
