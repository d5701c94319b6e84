use Rattle.scheme_model.specs.Trees.{Trees}
use Rattle.scheme_model.specs.Shapes.{name_of}
use Rattle.scheme_model.specs.Ident.{Ident as Identifier}
use Rattle.syntax_tree.specs.Looks.{PartsStand}
use Rattle.core_forms.specs.Parts.{IsName}
use Rattle.core_forms.proofs.Reading.{UpTo}
use Rattle.core_forms.proofs.names.names_of.Given as goal

abbrev pub invariant-loop-item : goal.invariant-loop-item
invariant-loop-item l = (ts : Trees Identifier) → PartsStand l.work l.items ts → UpTo (IsName l.work) name_of ts l.item-index l.names.items
