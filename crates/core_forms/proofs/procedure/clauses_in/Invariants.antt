use Rattle.scheme_model.specs.Trees.{Trees}
use Rattle.core_forms.specs.Steps.{clause_of}
use Rattle.scheme_model.specs.Ident.{Ident as Identifier}
use Rattle.syntax_tree.specs.Looks.{PartsStand, AllNamed}
use Rattle.syntax_tree.specs.declared.trees.table.Region.{Region}
use Rattle.core_forms.specs.Named.{ClausesNamed}
use Rattle.core_forms.specs.Parts.{IsClause}
use Rattle.core_forms.proofs.Reading.{UpTo}
use Rattle.core_forms.proofs.procedure.clauses_in.Given as goal

abbrev pub invariant-loop-item : goal.invariant-loop-item
invariant-loop-item l =
    ((ts : Trees Identifier) → PartsStand l.work l.items ts → UpTo (IsClause l.work) clause_of ts l.item-index l.clauses.items)
    × ((region : Region) → AllNamed l.work region l.items → ClausesNamed l.work region l.clauses)
