use Rattle.scheme_model.specs.Trees.{Trees}
use Rattle.core_forms.specs.Forms.{choice_of}
use Rattle.scheme_model.specs.Ident.{Ident as Identifier}
use Rattle.syntax_tree.specs.Looks.{PartsStand, AllNamed}
use Rattle.syntax_tree.specs.declared.trees.table.Region.{Region}
use Rattle.core_forms.specs.Named.{ChoicesNamed}
use Rattle.core_forms.specs.Parts.{IsChoice}
use Rattle.core_forms.proofs.Reading.{UpTo}
use Rattle.core_forms.proofs.conditional.choices_in.Given as goal

abbrev pub invariant-loop-item : goal.invariant-loop-item
invariant-loop-item l =
    ((ts : Trees Identifier) → PartsStand l.work l.items ts → UpTo (IsChoice l.work) choice_of ts l.item-index l.choices.items)
    × ((region : Region) → AllNamed l.work region l.items → ChoicesNamed l.work region l.choices)
