-- The shapes of core forms (R7RS 4.1, 4.2.1, 4.3, 5.3, 5.5). Reading one takes a test for one identifier, and no meaning.
-- Trees are those behind the keyword. A fault without a number of its own is BadForm; the lowest that holds is answered.
use Rattle.std.specs.Prelude.{ℕ, List, [], ◌∷◌, ◌++◌, map, Bool, true, false, ◌||◌, Option, Some, None, Result, Ok, Err, if◌then◌else◌}
use Rattle.scheme_model.specs.Trees.{Atom, Numeral, Quoted, Character, Boolean, Bytes, Tree, name, atom, list, vector, Trees, no_trees, tree, Tail, proper, dotted}
use Rattle.scheme_model.specs.ExpansionFaults.{Named, named, Fault, BadForm, DuplicateBinder, BadRecord, ◌>>◌}

-- names of binders, the last of which takes the arguments that are left where `rest` holds
pub record Formals (A : Type 0) : Type 0 where
  pub names : List (Named A)
  pub rest : Bool

-- formals and the forms of a body
pub record Clause (A : Type 0) : Type 0 where
  pub formals : Formals A
  pub body : Trees A

-- ---- names

-- an identifier
abbrev pub name_of : {A : Type 0} → Tree A → Result (Named A) (Fault A)
name_of (name i o) = Ok (named i o)
name_of (atom a o) = Err BadForm
name_of (list us tail o) = Err BadForm
name_of (vector us o) = Err BadForm

-- a list of identifiers
abbrev pub names_of : {A : Type 0} → Trees A → Result (List (Named A)) (Fault A)
names_of no_trees = Ok []
names_of (tree t ts) = name_of t >> λ n. names_of ts >> λ ns. Ok (n ∷ ns)

abbrev pub is_among : {A : Type 0} → (A → A → Bool) → A → List (Named A) → Bool
is_among same i [] = false
is_among same i (n ∷ ns) = same n.name i || is_among same i ns

-- the names differ from those seen and from one another; the first that doesn't is the fault
abbrev pub distinct_from : {A : Type 0} → (A → A → Bool) → List (Named A) → List (Named A) → Result (Unit {0}) (Fault A)
distinct_from same seen [] = Ok tt
distinct_from same seen (n ∷ ns) = if is_among same n.name seen then Err (DuplicateBinder n) else distinct_from same (n ∷ seen) ns

abbrev pub distinct : {A : Type 0} → (A → A → Bool) → List (Named A) → Result (Unit {0}) (Fault A)
distinct same ns = distinct_from same [] ns

-- a list of identifiers that may be dotted
abbrev pub formals_in : {A : Type 0} → Trees A → Tail A → Result (Formals A) (Fault A)
formals_in ts proper = names_of ts >> λ ns. Ok (record { names = ns; rest = false })
formals_in ts (dotted t) = names_of ts >> λ ns. name_of t >> λ n. Ok (record { names = ns ++ n ∷ []; rest = true })

-- formals: an identifier, or a list of identifiers that may be dotted (R7RS 4.1.4)
abbrev pub formals_of : {A : Type 0} → Tree A → Result (Formals A) (Fault A)
formals_of (name i o) = Ok (record { names = named i o ∷ []; rest = true })
formals_of (atom a o) = Err BadForm
formals_of (list ts tail o) = formals_in ts tail
formals_of (vector ts o) = Err BadForm

-- ---- lists of trees

-- a proper list
abbrev pub proper_of : {A : Type 0} → Trees A → Tail A → Result (Trees A) (Fault A)
proper_of ts proper = Ok ts
proper_of ts (dotted t) = Err BadForm

-- a proper list of one tree or more, as a body is
abbrev pub some_of : {A : Type 0} → Trees A → Tail A → Result (Trees A) (Fault A)
some_of no_trees tail = Err BadForm
some_of (tree t ts) tail = proper_of (tree t ts) tail

-- one tree alone
abbrev pub one_of : {A : Type 0} → Trees A → Tail A → Result (Tree A) (Fault A)
one_of no_trees tail = Err BadForm
one_of (tree t no_trees) proper = Ok t
one_of (tree t no_trees) (dotted u) = Err BadForm
one_of (tree t (tree u us)) tail = Err BadForm

-- a tree, and what follows it
abbrev pub first_of : {A : Type 0} → Trees A → Result (Tree A × Trees A) (Fault A)
first_of no_trees = Err BadForm
first_of (tree t ts) = Ok (t, ts)

-- the parts of a list that may be dotted
abbrev pub list_of : {A : Type 0} → Tree A → Result (Trees A × Tail A) (Fault A)
list_of (name i o) = Err BadForm
list_of (atom a o) = Err BadForm
list_of (list ts tail o) = Ok (ts, tail)
list_of (vector ts o) = Err BadForm

-- ---- procedures

-- `(formals body)`, whose names may be equal yet
abbrev pub clause_in : {A : Type 0} → Trees A → Tail A → Result (Clause A) (Fault A)
clause_in ts tail = first_of ts >> λ p. formals_of p.0 >> λ f. some_of p.1 tail >> λ b. Ok (record { formals = f; body = b })

-- `(lambda formals body)`
abbrev pub lambda_of : {A : Type 0} → (A → A → Bool) → Trees A → Tail A → Result (Clause A) (Fault A)
lambda_of same ts tail = clause_in ts tail >> λ c. distinct same c.formals.names >> λ done. Ok c

abbrev pub clauses_in : {A : Type 0} → Trees A → Result (List (Clause A)) (Fault A)
clauses_in no_trees = Ok []
clauses_in (tree t ts) = list_of t >> λ p. clause_in p.0 p.1 >> λ c. clauses_in ts >> λ cs. Ok (c ∷ cs)

abbrev pub distinct_all : {A : Type 0} → (A → A → Bool) → List (Clause A) → Result (Unit {0}) (Fault A)
distinct_all same [] = Ok tt
distinct_all same (c ∷ cs) = distinct same c.formals.names >> λ done. distinct_all same cs

-- `(case-lambda (formals body) ...)`
abbrev pub case_lambda_of : {A : Type 0} → (A → A → Bool) → Trees A → Tail A → Result (List (Clause A)) (Fault A)
case_lambda_of same ts tail = proper_of ts tail >> clauses_in >> λ cs. distinct_all same cs >> λ done. Ok cs

-- ---- expressions

-- `(if test consequent)` and `(if test consequent alternate)`
abbrev pub if_of : {A : Type 0} → Trees A → Tail A → Result (Trees A) (Fault A)
if_of ts tail = proper_of ts tail >> λ us. first_of us >> λ p. first_of p.1 >> λ q. two_or_three us q.1
  where
    two_or_three : {A : Type 0} → Trees A → Trees A → Result (Trees A) (Fault A)
    two_or_three us no_trees = Ok us
    two_or_three us (tree t no_trees) = Ok us
    two_or_three us (tree t (tree u vs)) = Err BadForm

-- `(set! id e)`
abbrev pub named_tree_of : {A : Type 0} → Trees A → Tail A → Result (Named A × Tree A) (Fault A)
named_tree_of ts tail = first_of ts >> λ p. name_of p.0 >> λ n. one_of p.1 tail >> λ t. Ok (n, t)

-- `(define-syntax id rules)`, and `(id rules)` of a local macro; rules are a list, whatever its head
abbrev pub syntax_of : {A : Type 0} → Trees A → Tail A → Result (Named A × Tree A) (Fault A)
syntax_of ts tail = named_tree_of ts tail >> λ p. list_of p.1 >> λ rules. Ok p

-- `(syntax-error "text" form ...)`: the text
abbrev pub error_text_of : {A : Type 0} → Trees A → Tail A → Result (List ℕ) (Fault A)
error_text_of ts tail = some_of ts tail >> λ us. first_of us >> λ p. text_of p.0
  where
    text_in : {A : Type 0} → Atom → Result (List ℕ) (Fault A)
    text_in (Numeral s) = Err BadForm
    text_in (Quoted s) = Ok s
    text_in (Character c) = Err BadForm
    text_in (Boolean b) = Err BadForm
    text_in (Bytes s) = Err BadForm

    text_of : {A : Type 0} → Tree A → Result (List ℕ) (Fault A)
    text_of (name i o) = Err BadForm
    text_of (atom a o) = text_in a
    text_of (list us tail o) = Err BadForm
    text_of (vector us o) = Err BadForm

-- ---- definitions

-- a definition: of a value, or of a procedure
pub data DefinitionShape (A : Type 0) : Type 0 where
  Variable : Named A → Tree A → DefinitionShape A
  Procedure : Named A → Clause A → DefinitionShape A

-- `(define (id . formals) body)`, from the list on
abbrev pub procedure_of : {A : Type 0} → (A → A → Bool) → Trees A × Tail A → Trees A → Tail A → Result (DefinitionShape A) (Fault A)
procedure_of same p ts tail =
    first_of p.0 >> λ q. name_of q.0 >> λ n. formals_in q.1 p.1 >> λ f. some_of ts tail >> λ b.
    distinct same f.names >> λ done. Ok (Procedure n (record { formals = f; body = b }))

-- `(define id e)` or `(define (id . formals) body)`
abbrev pub definition_with : {A : Type 0} → (A → A → Bool) → Tree A → Trees A → Tail A → Result (DefinitionShape A) (Fault A)
definition_with same (name i o) ts tail = one_of ts tail >> λ t. Ok (Variable (named i o) t)
definition_with same (atom a o) ts tail = Err BadForm
definition_with same (list us end o) ts tail = procedure_of same (us, end) ts tail
definition_with same (vector us o) ts tail = Err BadForm

abbrev pub definition_of : {A : Type 0} → (A → A → Bool) → Trees A → Tail A → Result (DefinitionShape A) (Fault A)
definition_of same ts tail = first_of ts >> λ p. definition_with same p.0 p.1 tail

-- `(define-values formals e)`
abbrev pub values_of : {A : Type 0} → (A → A → Bool) → Trees A → Tail A → Result (Formals A × Tree A) (Fault A)
values_of same ts tail = first_of ts >> λ p. formals_of p.0 >> λ f. one_of p.1 tail >> λ t. distinct same f.names >> λ done. Ok (f, t)

-- ---- records (R7RS 5.5)

pub record FieldShape (A : Type 0) : Type 0 where
  pub field : Named A
  pub accessor : Named A
  pub modifier : Option (Named A)

pub record RecordShape (A : Type 0) : Type 0 where
  pub type : Named A
  pub constructor : Named A
  pub used : List (Named A)
  pub predicate : Named A
  pub fields : List (FieldShape A)

-- `(field accessor)` or `(field accessor modifier)`
abbrev pub field_with : {A : Type 0} → List (Named A) → Result (FieldShape A) (Fault A)
field_with [] = Err BadForm
field_with (n ∷ []) = Err BadForm
field_with (n ∷ a ∷ []) = Ok (record { field = n; accessor = a; modifier = None })
field_with (n ∷ a ∷ m ∷ []) = Ok (record { field = n; accessor = a; modifier = Some m })
field_with (n ∷ a ∷ m ∷ k ∷ ks) = Err BadForm

abbrev pub fields_of : {A : Type 0} → Trees A → Result (List (FieldShape A)) (Fault A)
fields_of no_trees = Ok []
fields_of (tree t ts) = list_of t >> λ p. proper_of p.0 p.1 >> names_of >> field_with >> λ f. fields_of ts >> λ fs. Ok (f ∷ fs)

-- a constructor: `(id field ...)`, or an identifier, which uses no field
abbrev pub constructor_of : {A : Type 0} → Tree A → Result (Named A × List (Named A)) (Fault A)
constructor_of (name i o) = Ok (named i o, [])
constructor_of (atom a o) = Err BadForm
constructor_of (list ts tail o) = proper_of ts tail >> λ us. first_of us >> λ p. name_of p.0 >> λ n. names_of p.1 >> λ ns. Ok (n, ns)
constructor_of (vector ts o) = Err BadForm

abbrev pub all_among : {A : Type 0} → (A → A → Bool) → List (Named A) → List (Named A) → Bool
all_among same [] fields = true
all_among same (n ∷ ns) fields = if is_among same n.name fields then all_among same ns fields else false

abbrev pub record_in : {A : Type 0} → (A → A → Bool) → Trees A → Tail A → Result (RecordShape A) (Fault A)
record_in same ts tail =
    proper_of ts tail >> λ us. first_of us >> λ p. name_of p.0 >> λ n. first_of p.1 >> λ q. constructor_of q.0 >> λ c.
    first_of q.1 >> λ r. name_of r.0 >> λ pred. fields_of r.1 >> λ fs. distinct same (map (λ f. f.field) fs) >> λ done.
    if all_among same c.1 (map (λ f. f.field) fs) then Ok (record { type = n; constructor = c.0; used = c.1; predicate = pred; fields = fs }) else Err BadForm

abbrev pub or_bad_record : {A : Type 0} → Result (RecordShape A) (Fault A) → Result (RecordShape A) (Fault A)
or_bad_record (Ok r) = Ok r
or_bad_record (Err e) = Err BadRecord

-- `(define-record-type name constructor predicate field ...)`: whatever is wrong is BadRecord
abbrev pub record_of : {A : Type 0} → (A → A → Bool) → Trees A → Tail A → Result (RecordShape A) (Fault A)
record_of same ts tail = or_bad_record (record_in same ts tail)

-- ---- local macros (R7RS 4.3.1)

pub record LocalMacros (A : Type 0) : Type 0 where
  pub names : List (Named A)
  pub rules : Trees A
  pub body : Trees A

abbrev pub bindings_of : {A : Type 0} → Trees A → Result (List (Named A) × Trees A) (Fault A)
bindings_of no_trees = Ok ([], no_trees)
bindings_of (tree t ts) = list_of t >> λ p. syntax_of p.0 p.1 >> λ b. bindings_of ts >> λ bs. Ok (b.0 ∷ bs.0, tree b.1 bs.1)

-- `(let-syntax ((id rules) ...) body)`, and `letrec-syntax`
abbrev pub local_macros_of : {A : Type 0} → (A → A → Bool) → Trees A → Tail A → Result (LocalMacros A) (Fault A)
local_macros_of same ts tail =
    first_of ts >> λ p. list_of p.0 >> λ q. proper_of q.0 q.1 >> bindings_of >> λ bs. some_of p.1 tail >> λ body.
    distinct same bs.0 >> λ done. Ok (record { names = bs.0; rules = bs.1; body = body })
