-- What nodes of a region may name of that which is read: the trees that it hands on.
use Rattle.std.specs.Prelude.{Vec}
use Rattle.std.specs.List.{AllByRecursion}
use Rattle.std.specs.declared.alloc.Global.{Global}
use Rattle.syntax_tree.specs.Looks.{AllNamed}
use Rattle.syntax_tree.specs.Works.{CanName}
use Rattle.syntax_tree.specs.declared.trees.Work.{Work}
use Rattle.syntax_tree.specs.declared.trees.nodes.Tree as number
use Rattle.syntax_tree.specs.declared.trees.table.Region.{Region}
use Rattle.core_forms.specs.declared.rows.Row.{Row}
use Rattle.core_forms.specs.declared.rows.Row.TheVariants as rows
use Rattle.core_forms.specs.declared.shape.CoreShape as code
use Rattle.core_forms.specs.declared.shape.CoreShape.TheVariants as shapes
use Rattle.core_forms.specs.declared.shape.ClauseShape as code_clause
use Rattle.core_forms.specs.declared.shape.LocalMacro as code_macro
use Rattle.core_forms.specs.declared.shape.Choice as code_choice

-- the trees of a row
abbrev pub RowNamed : Work → Region → Row → Type 0
RowNamed work region rows.Empty = Unit {0}
RowNamed work region (rows.Parts n ns) = CanName work region n × AllNamed work region ns.now

abbrev pub TreesNamed : Work → Region → Vec number.Tree Global → Type 0
TreesNamed work region ns = AllNamed work region ns.items

-- the body of a clause, the rules of a macro, and the requirement and the forms of a choice
abbrev pub ClauseNamed : Work → Region → code_clause.ClauseShape → Type 0
ClauseNamed work region c = TreesNamed work region c.body

abbrev pub ClausesNamed : Work → Region → Vec code_clause.ClauseShape Global → Type 0
ClausesNamed work region cs = AllByRecursion (ClauseNamed work region) cs.items

abbrev pub MacroNamed : Work → Region → code_macro.LocalMacro → Type 0
MacroNamed work region m = CanName work region m.rules

abbrev pub MacrosNamed : Work → Region → Vec code_macro.LocalMacro Global → Type 0
MacrosNamed work region ms = AllByRecursion (MacroNamed work region) ms.items

abbrev pub ChoiceNamed : Work → Region → code_choice.Choice → Type 0
ChoiceNamed work region c = CanName work region c.requirement × TreesNamed work region c.forms

abbrev pub ChoicesNamed : Work → Region → Vec code_choice.Choice Global → Type 0
ChoicesNamed work region cs = AllByRecursion (ChoiceNamed work region) cs.items

-- all trees of a shape
abbrev pub ShapeNamed : Work → Region → code.CoreShape → Type 0
ShapeNamed work region (shapes.Quote n) = CanName work region n
ShapeNamed work region (shapes.Quasi n ns places) = CanName work region n × TreesNamed work region ns
ShapeNamed work region (shapes.Lambda c) = ClauseNamed work region c
ShapeNamed work region (shapes.CaseLambda cs) = ClausesNamed work region cs
ShapeNamed work region (shapes.If ns) = TreesNamed work region ns
ShapeNamed work region (shapes.Set name n) = CanName work region n
ShapeNamed work region (shapes.Begin ns) = TreesNamed work region ns
ShapeNamed work region (shapes.Define name n) = CanName work region n
ShapeNamed work region (shapes.Procedure name c) = ClauseNamed work region c
ShapeNamed work region (shapes.Values formals n) = CanName work region n
ShapeNamed work region (shapes.RecordType name constructor used predicate fields) = Unit {0}
ShapeNamed work region (shapes.DefineSyntax name n) = CanName work region n
ShapeNamed work region (shapes.LetSyntax ms ns) = MacrosNamed work region ms × TreesNamed work region ns
ShapeNamed work region (shapes.CondExpand cs) = ChoicesNamed work region cs
ShapeNamed work region (shapes.SyntaxError text) = Unit {0}
ShapeNamed work region shapes.Include = Unit {0}
