-- How a reading of a core form ends: what the shape of the code stands for, or the fault.
use Rattle.std.specs.Prelude.{◌≡◌, ℕ, ◌++◌, Option, Some, None, Result, Ok, Err, Vec, slice_get}
use Rattle.std.specs.declared.alloc.Global.{Global}
use Rattle.scheme_model.specs.Trees.{Tree}
use Rattle.scheme_model.specs.ExpansionFaults.{Named, Fault, BadForm, DuplicateBinder, BadPlace, BadRecord, BadQuasi}
use Rattle.scheme_model.specs.Keywords.{CoreKeyword, IsQuote, IsQuasiquote, IsLambda, IsCaseLambda, IsIf, IsSet, IsBegin, IsDefine, IsDefineValues, IsDefineRecordType, IsDefineSyntax, IsLetSyntax, IsLetrecSyntax, IsCondExpand, IsSyntaxError, IsInclude}
use Rattle.scheme_model.specs.Shapes.{Formals, DefinitionShape, Variable, Procedure as procedure, RecordShape, LocalMacros}
use Rattle.scheme_model.specs.Quasiquote.{Pieces, RowPieces}
use Rattle.scheme_model.specs.Holes.{hole_places}
use Rattle.scheme_model.specs.Ident.{Ident as Identifier}
use Rattle.syntax_tree.specs.Works.{StandsFor}
use Rattle.syntax_tree.specs.declared.trees.Work.{Work}
use Rattle.syntax_tree.specs.declared.trees.nodes.Tree as number
use Rattle.core_forms.specs.Forms.{Shape, Quoted, Quasi, Procedure, Procedures, Conditional, Assignment, Sequence, Definition, Several, RecordType, Syntax, Local, Choices, ErrorText, Inclusion}
use Rattle.core_forms.specs.Parts.{AllMatch, IsName, AreNames, AreTrees, IsFormals, IsClause, AreClauses, AreFields, AreMacros, AreChoices}
use Rattle.core_forms.specs.Marks.{AddsFound, nodes_in, nodes_among, nodes_behind}
use Rattle.core_forms.specs.declared.quasi.Found.{Found}
use Rattle.core_forms.specs.declared.fault.CoreFault.{CoreFault}
use Rattle.core_forms.specs.declared.fault.CoreFault.TheVariants as fault
use Rattle.core_forms.specs.declared.shape.CoreShape as code
use Rattle.core_forms.specs.declared.shape.CoreShape.TheVariants as shapes
use Rattle.core_forms.specs.declared.shape.NamePart as code_name
use Rattle.core_forms.specs.declared.shape.Formals as code_formals
use Rattle.core_forms.specs.declared.shape.ClauseShape as code_clause
use Rattle.core_forms.specs.declared.shape.FieldShape as code_field
use Rattle.core_forms.specs.declared.shape.LocalMacro as code_macro
use Rattle.core_forms.specs.declared.shape.Choice as code_choice
use Rattle.core_forms.specs.declared.shape.CoreKeyword as code_keyword
use Rattle.core_forms.specs.declared.shape.CoreKeyword.TheVariants as word

-- the keyword of a form; the marks of a quasiquotation are none
abbrev pub keyword_as : code_keyword.CoreKeyword → Option CoreKeyword
keyword_as word.Quote = Some IsQuote
keyword_as word.Quasiquote = Some IsQuasiquote
keyword_as word.Unquote = None
keyword_as word.UnquoteSplicing = None
keyword_as word.Lambda = Some IsLambda
keyword_as word.CaseLambda = Some IsCaseLambda
keyword_as word.If = Some IsIf
keyword_as word.Set = Some IsSet
keyword_as word.Begin = Some IsBegin
keyword_as word.Define = Some IsDefine
keyword_as word.DefineValues = Some IsDefineValues
keyword_as word.DefineRecordType = Some IsDefineRecordType
keyword_as word.DefineSyntax = Some IsDefineSyntax
keyword_as word.LetSyntax = Some IsLetSyntax
keyword_as word.LetrecSyntax = Some IsLetrecSyntax
keyword_as word.CondExpand = Some IsCondExpand
keyword_as word.SyntaxError = Some IsSyntaxError
keyword_as word.Include = Some IsInclude
keyword_as word.IncludeCi = Some IsInclude

-- ---- shapes

pub record IsRecord (work : Work) (n c : code_name.NamePart) (us : Vec code_name.NamePart Global) (p : code_name.NamePart) (fs : Vec code_field.FieldShape Global) (r : RecordShape Identifier) : Type 0 where
  pub type : IsName work n r.type
  pub constructor : IsName work c r.constructor
  pub used : AreNames work us r.used
  pub predicate : IsName work p r.predicate
  pub fields : AreFields work fs r.fields

-- the shape of the code stands for the shape of the definitions
abbrev pub ShapeFor : Work → code.CoreShape → Shape → Type 0
ShapeFor work x (Quoted t) = (n : number.Tree) × (x ≡ shapes.Quote n) × StandsFor work n t
ShapeFor work x (Quasi t p) =
    (n : number.Tree) × ((ns : Vec number.Tree Global) × ((places : Vec ℕ Global) × (x ≡ shapes.Quasi n ns places) × StandsFor work n t × AllMatch (StandsFor work) ns.items p.holes × (places.items ≡ hole_places p.datum)))
ShapeFor work x (Procedure c) = (n : code_clause.ClauseShape) × (x ≡ shapes.Lambda n) × IsClause work n c
ShapeFor work x (Procedures cs) = (ns : Vec code_clause.ClauseShape Global) × (x ≡ shapes.CaseLambda ns) × AreClauses work ns cs
ShapeFor work x (Conditional ts) = (ns : Vec number.Tree Global) × (x ≡ shapes.If ns) × AreTrees work ns ts
ShapeFor work x (Assignment p) = (n : code_name.NamePart) × ((v : number.Tree) × (x ≡ shapes.Set n v) × IsName work n p.0 × StandsFor work v p.1)
ShapeFor work x (Sequence ts) = (ns : Vec number.Tree Global) × (x ≡ shapes.Begin ns) × AreTrees work ns ts
ShapeFor work x (Definition (Variable m t)) = (n : code_name.NamePart) × ((v : number.Tree) × (x ≡ shapes.Define n v) × IsName work n m × StandsFor work v t)
ShapeFor work x (Definition (procedure m c)) = (n : code_name.NamePart) × ((v : code_clause.ClauseShape) × (x ≡ shapes.Procedure n v) × IsName work n m × IsClause work v c)
ShapeFor work x (Several p) = (f : code_formals.Formals) × ((v : number.Tree) × (x ≡ shapes.Values f v) × IsFormals work f p.0 × StandsFor work v p.1)
ShapeFor work x (RecordType r) =
    (n : code_name.NamePart) × ((c : code_name.NamePart) × ((used : Vec code_name.NamePart Global) × ((p : code_name.NamePart) × ((fields : Vec code_field.FieldShape Global) × (x ≡ shapes.RecordType n c used p fields) × IsRecord work n c used p fields r))))
ShapeFor work x (Syntax p) = (n : code_name.NamePart) × ((v : number.Tree) × (x ≡ shapes.DefineSyntax n v) × IsName work n p.0 × StandsFor work v p.1)
ShapeFor work x (Local m) =
    (macros : Vec code_macro.LocalMacro Global) × ((body : Vec number.Tree Global) × (x ≡ shapes.LetSyntax macros body) × AreMacros work macros.items m.names m.rules × AreTrees work body m.body)
ShapeFor work x (Choices ps) = (cs : Vec code_choice.Choice Global) × (x ≡ shapes.CondExpand cs) × AreChoices work cs ps
ShapeFor work x (ErrorText text) = (s : ℕ) × (x ≡ shapes.SyntaxError s) × (slice_get work.symbols.symbols s ≡ Some text)
ShapeFor work x Inclusion = x ≡ shapes.Include

-- ---- how a call ends

-- a fault of the code is that of the definition; want of memory says nothing
abbrev pub Refuses : {Y : Type 0} → Work → CoreFault → Result Y (Fault Identifier) → Type 0
Refuses work fault.BadForm s = s ≡ Err BadForm
Refuses work (fault.DuplicateBinder n) s = (i : Named Identifier) × (s ≡ Err (DuplicateBinder i)) × IsName work n i
Refuses work fault.BadPlace s = s ≡ Err BadPlace
Refuses work fault.BadRecord s = s ≡ Err BadRecord
Refuses work fault.BadQuasi s = s ≡ Err BadQuasi
Refuses work fault.Memory s = Unit {0}

-- a value of the code stands for that of the definition
abbrev pub Ends : {X Y : Type 0} → Work → (X → Y → Type 0) → Result Y (Fault Identifier) → Result X CoreFault → Type 0
Ends {X} {Y} work P s (Ok x) = (y : Y) × (s ≡ Ok y) × P x y
Ends work P s (Err e) = Refuses work e s

-- nothing is found wrong
abbrev pub Passes : Work → Result (Unit {0}) (Fault Identifier) → Result (Unit {0}) CoreFault → Type 0
Passes work = Ends work (λ done also. Unit {0})

-- ---- kinds of shapes

abbrev pub IsDefinition : Work → code.CoreShape → DefinitionShape Identifier → Type 0
IsDefinition work x d = ShapeFor work x (Definition d)

abbrev pub AreValues : Work → code.CoreShape → Formals Identifier × Tree Identifier → Type 0
AreValues work x p = ShapeFor work x (Several p)

abbrev pub IsRecordType : Work → code.CoreShape → RecordShape Identifier → Type 0
IsRecordType work x r = ShapeFor work x (RecordType r)

abbrev pub IsSyntax : Work → code.CoreShape → Named Identifier × Tree Identifier → Type 0
IsSyntax work x p = ShapeFor work x (Syntax p)

abbrev pub IsLocal : Work → code.CoreShape → LocalMacros Identifier → Type 0
IsLocal work x m = ShapeFor work x (Local m)

-- ---- the holes of a quasiquotation

abbrev pub HasHoles : Work → Found → Pieces Identifier → Type 0
HasHoles work f p = AllMatch (StandsFor work) f.trees.items p.holes × (f.places.items ≡ hole_places p.datum)

-- a reading adds holes to those that were there
abbrev pub AddsPieces : Work → Found → Found → Result (Pieces Identifier) (Fault Identifier) → Result (Unit {0}) CoreFault → Type 0
AddsPieces work old new = Ends work (λ (done : Unit {0}) (p : Pieces Identifier). AddsFound work old new p.holes (nodes_in p.datum))

abbrev pub AddsRow : Work → Found → Found → Result (RowPieces Identifier) (Fault Identifier) → Result (Unit {0}) CoreFault → Type 0
AddsRow work old new = Ends work (λ (done : Unit {0}) (p : RowPieces Identifier). AddsFound work old new p.holes (nodes_among p.parts ++ nodes_behind p.tail))
