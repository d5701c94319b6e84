use Rattle.scheme_model.specs.Trees.{Trees}
use Rattle.core_forms.specs.Steps.{field_of}
use Rattle.scheme_model.specs.Ident.{Ident as Identifier}
use Rattle.syntax_tree.specs.Looks.{PartsStand}
use Rattle.core_forms.specs.Parts.{IsField}
use Rattle.core_forms.proofs.Reading.{UpTo}
use Rattle.core_forms.proofs.records.fields_of.Given as goal

abbrev pub invariant-loop-item : goal.invariant-loop-item
invariant-loop-item l = (ts : Trees Identifier) → PartsStand l.work l.items ts → UpTo (IsField l.work) field_of ts l.item-index l.fields.items
