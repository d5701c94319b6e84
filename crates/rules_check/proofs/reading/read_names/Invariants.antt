use Rattle.scheme_model.specs.Trees.{Trees}
use Rattle.scheme_model.specs.Ident.{Ident as Identifier}
use Rattle.syntax_tree.specs.Looks.{PartsStand}
use Rattle.rules_check.proofs.ReadLaws.{NamesUpTo}
use Rattle.rules_check.proofs.reading.read_names.Given as goal

abbrev pub invariant-loop-item : goal.invariant-loop-item
invariant-loop-item l = (ts : Trees Identifier) → PartsStand l.work l.items ts → NamesUpTo l.work ts l.item-index l.names
