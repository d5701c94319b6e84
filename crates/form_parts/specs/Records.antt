-- The shape of a record's definition in the code (R7RS 5.5).
use Rattle.scheme_model.specs.Ident.{Ident as Identifier}
use Rattle.scheme_model.specs.Shapes.{RecordShape}
use Rattle.syntax_tree.specs.declared.trees.Work.{Work}
use Rattle.core_forms.specs.Ends.{IsRecord}
use Rattle.form_parts.specs.declared.records.Record as code

abbrev pub IsRecordFor : Work → code.Record → RecordShape Identifier → Type 0
IsRecordFor work r m = IsRecord work r.name r.constructor r.used r.predicate r.fields m
