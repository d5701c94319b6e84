use Rattle.scheme_model.specs.Trees.{Trees}
use Rattle.scheme_model.specs.Ident.{Ident as Identifier}
use Rattle.syntax_tree.specs.Looks.{PartsStand}
use Rattle.rules_check.specs.Gathered.{name_leaves}
use Rattle.rules_check.proofs.Gathering.{UpTo}
use Rattle.rules_check.proofs.leaf.in_names.Given as goal

abbrev pub invariant-loop-k : goal.invariant-loop-k
invariant-loop-k l =
    (ts : Trees Identifier) → PartsStand l.work l.items ts → UpTo l.work.symbols name_leaves l.fn.leaves.items l.leaves.items ts 0 l.k
