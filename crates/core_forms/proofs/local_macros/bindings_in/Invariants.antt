use Rattle.scheme_model.specs.Trees.{Trees}
use Rattle.core_forms.specs.Steps.{binding_of}
use Rattle.scheme_model.specs.Ident.{Ident as Identifier}
use Rattle.syntax_tree.specs.Looks.{PartsStand, AllNamed}
use Rattle.syntax_tree.specs.declared.trees.table.Region.{Region}
use Rattle.core_forms.specs.Named.{MacrosNamed}
use Rattle.core_forms.specs.Parts.{IsMacro}
use Rattle.core_forms.proofs.Reading.{UpTo}
use Rattle.core_forms.proofs.local_macros.bindings_in.Given as goal

abbrev pub invariant-loop-item : goal.invariant-loop-item
invariant-loop-item l =
    ((ts : Trees Identifier) → PartsStand l.work l.items ts → UpTo (IsMacro l.work) binding_of ts l.item-index l.macros.items)
    × ((region : Region) → AllNamed l.work region l.items → MacrosNamed l.work region l.macros)
