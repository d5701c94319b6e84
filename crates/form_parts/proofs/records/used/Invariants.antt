use Rattle.std.proofs.Common.{List, take}
use Rattle.scheme_model.specs.ExpansionFaults.{Named}
use Rattle.scheme_model.specs.Shapes.{FieldShape}
use Rattle.scheme_model.specs.Ident.{Ident as Identifier}
use Rattle.syntax_tree.specs.Names.{AreToldApart}
use Rattle.syntax_tree.specs.declared.trees.Work.{Work}
use Rattle.core_forms.specs.Parts.{AllMatch, IsName, IsField}
use Rattle.core_tree.specs.Names.{IsField as IsUse}
use Rattle.form_parts.specs.FormsSeen.{used_fields}
use Rattle.form_parts.proofs.records.used.Given as goal

abbrev pub invariant-loop-name : goal.invariant-loop-name
invariant-loop-name l = (work : Work) (ns : List (Named Identifier)) (fs : List (FieldShape Identifier)) → AreToldApart work.symbols.idents → AllMatch (IsName work) l.names ns → AllMatch (IsField work) l.fields fs →
    AllMatch IsUse l.uses.items (used_fields fs (take l.name-index ns))
