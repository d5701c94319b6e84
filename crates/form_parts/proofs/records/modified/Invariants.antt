use Rattle.std.proofs.Common.{◌≡◌, ◌++◌, List, drop}
use Rattle.scheme_model.specs.Shapes.{FieldShape}
use Rattle.scheme_model.specs.Order.{modified}
use Rattle.scheme_model.specs.Ident.{Ident as Identifier}
use Rattle.syntax_tree.specs.declared.trees.Work.{Work}
use Rattle.core_forms.specs.Parts.{AllMatch, IsField}
use Rattle.form_parts.proofs.records.modified.Given as goal

abbrev pub invariant-loop-k : goal.invariant-loop-k
invariant-loop-k l = (work : Work) (fs : List (FieldShape Identifier)) → AllMatch (IsField work) l.fields fs → l.places.items ++ modified l.k (drop l.k fs) ≡ modified 0 fs
