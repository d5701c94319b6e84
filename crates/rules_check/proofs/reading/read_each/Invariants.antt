use Rattle.scheme_model.specs.Trees.{Trees}
use Rattle.scheme_model.specs.Ident.{Ident as Identifier}
use Rattle.syntax_tree.specs.Looks.{PartsStand}
use Rattle.rules_check.proofs.ReadLaws.{RulesUpTo}
use Rattle.rules_check.proofs.reading.read_each.Given as goal

abbrev pub invariant-loop-k : goal.invariant-loop-k
invariant-loop-k l = (ts : Trees Identifier) → PartsStand l.work l.items ts → RulesUpTo l.work ts l.from l.k l.rules
