-- What a core form is read as (R7RS 4.1, 4.2.1, 4.2.8, 4.3, 5.3, 5.5): by a keyword, whether the form stands as an expression, and
-- what identifiers mark in a quasiquotation. The trees are those behind the keyword.
use Rattle.std.specs.Prelude.{ℕ, List, [], ◌∷◌, Bool, true, false, Result, Ok, Err, Option}
use Rattle.scheme_model.specs.Trees.{Tree, name, atom, list, vector, Trees, no_trees, tree, Tail}
use Rattle.scheme_model.specs.ExpansionFaults.{Named, Fault, BadForm, BadPlace, ◌>>◌}
use Rattle.scheme_model.specs.Keywords.{CoreKeyword, IsQuote, IsQuasiquote, IsLambda, IsCaseLambda, IsIf, IsSet, IsBegin, IsDefine, IsDefineValues, IsDefineRecordType, IsDefineSyntax, IsLetSyntax, IsLetrecSyntax, IsCondExpand, IsSyntaxError, IsInclude}
use Rattle.scheme_model.specs.Shapes.{Formals, Clause, DefinitionShape, RecordShape, LocalMacros, first_of, list_of, one_of, some_of, proper_of, if_of, lambda_of, case_lambda_of, named_tree_of, syntax_of, error_text_of, definition_of, values_of, record_of, local_macros_of}
use Rattle.scheme_model.specs.Quasiquote.{Mark, Pieces, quasi_of}
use Rattle.scheme_model.specs.Ident.{Ident as Identifier, same_ident}

-- a form as it is read, by its kind
pub data Shape : Type 0 where
  Quoted : Tree Identifier → Shape
  Quasi : Tree Identifier → Pieces Identifier → Shape
  Procedure : Clause Identifier → Shape
  Procedures : List (Clause Identifier) → Shape
  Conditional : Trees Identifier → Shape
  Assignment : Named Identifier × Tree Identifier → Shape
  Sequence : Trees Identifier → Shape
  Definition : DefinitionShape Identifier → Shape
  Several : Formals Identifier × Tree Identifier → Shape
  RecordType : RecordShape Identifier → Shape
  Syntax : Named Identifier × Tree Identifier → Shape
  Local : LocalMacros Identifier → Shape
  Choices : List (Tree Identifier × Trees Identifier) → Shape
  ErrorText : List ℕ → Shape
  Inclusion : Shape

-- a clause of `cond-expand`: a requirement, and forms
abbrev pub choice_of : Tree Identifier → Result (Tree Identifier × Trees Identifier) (Fault Identifier)
choice_of t = list_of t >> λ p. some_of p.0 p.1 >> first_of

-- each tree read, left to right
abbrev pub each_of : {Y : Type 0} → (Tree Identifier → Result Y (Fault Identifier)) → Trees Identifier → Result (List Y) (Fault Identifier)
each_of f no_trees = Ok []
each_of f (tree t ts) = f t >> λ y. each_of f ts >> λ ys. Ok (y ∷ ys)

abbrev pub choices_in : Trees Identifier → Result (List (Tree Identifier × Trees Identifier)) (Fault Identifier)
choices_in ts = each_of choice_of ts

-- a definition has no place among expressions
abbrev pub unless_expression : Bool → Shape → Result Shape (Fault Identifier)
unless_expression true s = Err BadPlace
unless_expression false s = Ok s

abbrev pub sequence_of : Bool → Trees Identifier → Tail Identifier → Result (Trees Identifier) (Fault Identifier)
sequence_of true ts tail = some_of ts tail
sequence_of false ts tail = proper_of ts tail

-- as an expression a record's definition is misplaced, whatever its shape is
abbrev pub record_shape_of : Bool → Trees Identifier → Tail Identifier → Result Shape (Fault Identifier)
record_shape_of true ts tail = Err BadPlace
record_shape_of false ts tail = record_of same_ident ts tail >> λ r. Ok (RecordType r)

abbrev pub shape_of : CoreKeyword → Bool → (Identifier → Option Mark) → Trees Identifier → Tail Identifier → Result Shape (Fault Identifier)
shape_of IsQuote expression mark ts tail = one_of ts tail >> λ t. Ok (Quoted t)
shape_of IsQuasiquote expression mark ts tail = one_of ts tail >> λ t. quasi_of mark t >> λ p. Ok (Quasi t p)
shape_of IsLambda expression mark ts tail = lambda_of same_ident ts tail >> λ c. Ok (Procedure c)
shape_of IsCaseLambda expression mark ts tail = case_lambda_of same_ident ts tail >> λ cs. Ok (Procedures cs)
shape_of IsIf expression mark ts tail = if_of ts tail >> λ us. Ok (Conditional us)
shape_of IsSet expression mark ts tail = named_tree_of ts tail >> λ p. Ok (Assignment p)
shape_of IsBegin expression mark ts tail = sequence_of expression ts tail >> λ us. Ok (Sequence us)
shape_of IsDefine expression mark ts tail = definition_of same_ident ts tail >> λ d. unless_expression expression (Definition d)
shape_of IsDefineValues expression mark ts tail = values_of same_ident ts tail >> λ d. unless_expression expression (Several d)
shape_of IsDefineRecordType expression mark ts tail = record_shape_of expression ts tail
shape_of IsDefineSyntax expression mark ts tail = syntax_of ts tail >> λ p. unless_expression expression (Syntax p)
shape_of IsLetSyntax expression mark ts tail = local_macros_of same_ident ts tail >> λ m. Ok (Local m)
shape_of IsLetrecSyntax expression mark ts tail = local_macros_of same_ident ts tail >> λ m. Ok (Local m)
shape_of IsCondExpand expression mark ts tail = some_of ts tail >> choices_in >> λ cs. Ok (Choices cs)
shape_of IsSyntaxError expression mark ts tail = error_text_of ts tail >> λ text. Ok (ErrorText text)
shape_of IsInclude expression mark ts tail = Ok Inclusion

-- a form with its keyword, which isn't looked at
abbrev pub shape_in : CoreKeyword → Bool → (Identifier → Option Mark) → Tree Identifier → Result Shape (Fault Identifier)
shape_in k expression mark (name i o) = Err BadForm
shape_in k expression mark (atom a o) = Err BadForm
shape_in k expression mark (vector ts o) = Err BadForm
shape_in k expression mark (list no_trees tail o) = Err BadForm
shape_in k expression mark (list (tree head ts) tail o) = shape_of k expression mark ts tail
