-- Some forms, and what they are read as.
use Rattle.std.proofs.Common.{◌≡◌, [], ◌∷◌, true, false, Option, Some, None, Ok, Err, refl}
use Rattle.std.specs.Prelude.{codes, if◌then◌else◌}
use Rattle.scheme_model.specs.Trees.{Tree, name, list, Trees, no_trees, tree, proper}
use Rattle.scheme_model.specs.ExpansionFaults.{named, BadForm, DuplicateBinder, BadPlace, BadRecord, BadQuasi}
use Rattle.scheme_model.specs.Keywords.{IsLambda, IsIf, IsBegin, IsDefine, IsDefineRecordType, IsDefineSyntax, IsLetSyntax, IsQuasiquote, IsCondExpand}
use Rattle.scheme_model.specs.Quasiquote.{Mark, Unquoted, Spliced, pieces}
use Rattle.scheme_model.specs.Ident.{Ident as Identifier, Written, same_ident}
use Rattle.core_forms.specs.Forms.{Conditional, Quasi, Choices, shape_of}

abbrev a : Identifier
a = Written 0 (codes "a")

abbrev b : Identifier
b = Written 0 (codes "b")

abbrev x : Identifier
x = Written 0 (codes "x")

abbrev unquote : Identifier
unquote = Written 0 (codes "unquote")

abbrev splice : Identifier
splice = Written 0 (codes "unquote-splicing")

abbrev at : Identifier → Tree Identifier
at i = name i None

abbrev one : Tree Identifier → Trees Identifier
one t = tree t no_trees

abbrev mark : Identifier → Option Mark
mark i = if same_ident i unquote then Some Unquoted else if same_ident i splice then Some Spliced else None

-- `(if a)` and `(if a b)`
if_one : shape_of IsIf true mark (one (at a)) proper ≡ Err BadForm
if_one = refl

if_two : shape_of IsIf true mark (tree (at a) (one (at b))) proper ≡ Ok (Conditional (tree (at a) (one (at b))))
if_two = refl

-- `(lambda (x x) x)`
twice : shape_of IsLambda true mark (tree (list (tree (at x) (one (at x))) proper None) (one (at x))) proper ≡ Err (DuplicateBinder (named x None))
twice = refl

-- the shape goes before the names: `(lambda (x x))`
no_body : shape_of IsLambda true mark (one (list (tree (at x) (one (at x))) proper None)) proper ≡ Err BadForm
no_body = refl

-- `(define x a)` and a record as expressions, and a record of no shape in a body
misplaced : shape_of IsDefine true mark (tree (at x) (one (at a))) proper ≡ Err BadPlace
misplaced = refl

misplaced_record : shape_of IsDefineRecordType true mark no_trees proper ≡ Err BadPlace
misplaced_record = refl

bad_record : shape_of IsDefineRecordType false mark no_trees proper ≡ Err BadRecord
bad_record = refl

-- rules are a list before the place is asked, and before the names: `(define-syntax x a)` as an expression, and
-- `(let-syntax ((x a) (x b)) a)`
no_rules : shape_of IsDefineSyntax true mark (tree (at x) (one (at a))) proper ≡ Err BadForm
no_rules = refl

misplaced_rules : shape_of IsDefineSyntax true mark (tree (at x) (one (list (one (at a)) proper None))) proper ≡ Err BadPlace
misplaced_rules = refl

abbrev binding : Tree Identifier → Tree Identifier → Tree Identifier
binding n t = list (tree n (one t)) proper None

no_local_rules : shape_of IsLetSyntax true mark (tree (list (tree (binding (at x) (at a)) (one (binding (at x) (at b)))) proper None) (one (at a))) proper ≡ Err BadForm
no_local_rules = refl

-- `(begin)` as an expression
no_forms : shape_of IsBegin true mark no_trees proper ≡ Err BadForm
no_forms = refl

-- `(quasiquote (a unquote b))`, `(quasiquote (a unquote))`, and a splice as the whole
rest : shape_of IsQuasiquote true mark (one (list (tree (at a) (tree (at unquote) (one (at b)))) proper None)) proper
    ≡ Ok (Quasi (list (tree (at a) (tree (at unquote) (one (at b)))) proper None) (pieces (list (tree (name (Some a) None) (tree (name (Some unquote) None) (tree (name None None) no_trees))) proper None) (at b ∷ [])))
rest = refl

no_operand : shape_of IsQuasiquote true mark (one (list (tree (at a) (one (at unquote))) proper None)) proper ≡ Err BadQuasi
no_operand = refl

whole : shape_of IsQuasiquote true mark (one (list (tree (at splice) (one (at b))) proper None)) proper ≡ Err BadQuasi
whole = refl

-- `(cond-expand (a b))`
choice : shape_of IsCondExpand true mark (one (list (tree (at a) (one (at b))) proper None)) proper ≡ Ok (Choices ((at a, one (at b)) ∷ []))
choice = refl
