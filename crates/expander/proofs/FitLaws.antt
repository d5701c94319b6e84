-- What a core form binds, and the bodies in it, have no more parts than the form has nodes.
use Rattle.std.proofs.Common.{◌≡◌, ◌+◌, ◌≤◌, List, [], ◌∷◌, ◌++◌, length, Bool, true, false, Option, Result, Ok, Err, refl, ap, subst, arith}
use Rattle.std.proofs.lemmas.List.{length-append}
use Rattle.scheme_model.specs.Trees.{Tree, name, atom, list, vector, Trees, no_trees, tree, Tail, proper, dotted}
use Rattle.scheme_model.specs.Measures.{tree_size, trees_size, tail_size}
use Rattle.scheme_model.specs.ExpansionFaults.{Named, named, Fault, ◌>>◌}
use Rattle.scheme_model.specs.Keywords.{CoreKeyword, IsQuote, IsQuasiquote, IsLambda, IsCaseLambda, IsIf, IsSet, IsBegin, IsDefine, IsDefineValues, IsDefineRecordType, IsDefineSyntax, IsLetSyntax, IsLetrecSyntax, IsCondExpand, IsSyntaxError, IsInclude}
use Rattle.scheme_model.specs.Quasiquote.{Mark, quasi_of}
use Rattle.scheme_model.specs.Shapes.{Formals, Clause, DefinitionShape, Variable, Procedure as define_procedure, LocalMacros, first_of, list_of, one_of, some_of, proper_of, if_of, name_of, names_of, formals_in, formals_of, clause_in, clauses_in, distinct, distinct_all, lambda_of, case_lambda_of, named_tree_of, error_text_of, procedure_of, definition_with, definition_of, values_of, record_of, bindings_of, local_macros_of, syntax_of}
use Rattle.scheme_model.specs.Ident.{Ident as Identifier, same_ident}
use Rattle.core_forms.specs.Forms.{Shape, Quoted, Quasi, Procedure, Procedures, Conditional, Assignment, Sequence, Definition, Several, RecordType, Syntax, Local, Choices, ErrorText, Inclusion, unless_expression, sequence_of, record_shape_of, choices_in, shape_of}
use Rattle.unit_scopes.specs.Kept.{ClauseFits}
use Rattle.expander.specs.Passed.{ClausesFit, ShapeFits}

-- ---- readings that were made

pub record Made {B C : Type 0} (r : Result B (Fault Identifier)) (f : B → Result C (Fault Identifier)) (m : C) : Type 0 where
  pub first : B
  pub read : r ≡ Ok first
  pub then : f first ≡ Ok m

pub made : {B C : Type 0} (r : Result B (Fault Identifier)) (f : B → Result C (Fault Identifier)) (m : C) → (r >> f) ≡ Ok m → Made r f m
made (Ok b) f m h = record { first = b; read = refl; then = h }
made (Err e) f m h = absurd cc

-- ---- sizes

pub some_node : (t : Tree Identifier) → 1 ≤ tree_size t
some_node (name i o) = omega arith
some_node (atom a o) = omega arith
some_node (list ts tail o) = omega arith
some_node (vector ts o) = omega arith

pub names_count : (ts : Trees Identifier) (ns : List (Named Identifier)) → names_of ts ≡ Ok ns → length ns ≤ trees_size ts
names_count no_trees ns h = let e : [] ≡ ns = cc in omega (arith, ap length e)
names_count (tree t ts) ns h =
    let a = made (name_of t) (λ n. names_of ts >> λ ms. Ok (n ∷ ms)) ns h in
    let b = made (names_of ts) (λ ms. Ok (a.first ∷ ms)) ns a.then in
    let at = b.then in
    let e : a.first ∷ b.first ≡ ns = cc in
    omega (arith, ap length e, names_count ts b.first b.read, some_node t)

pub proper_is : (ts us : Trees Identifier) (tail : Tail Identifier) → proper_of ts tail ≡ Ok us → us ≡ ts
proper_is ts us proper h = cc
proper_is ts us (dotted t) h = absurd cc

pub some_is : (ts us : Trees Identifier) (tail : Tail Identifier) → some_of ts tail ≡ Ok us → us ≡ ts
some_is no_trees us tail h = absurd cc
some_is (tree t ts) us tail h = proper_is (tree t ts) us tail h

pub list_size : (t : Tree Identifier) (p : Trees Identifier × Tail Identifier) → list_of t ≡ Ok p → 1 + (trees_size p.0 + tail_size p.1) ≤ tree_size t
list_size (name i o) p h = absurd cc
list_size (atom a o) p h = absurd cc
list_size (list ts tail o) p h =
    let q : Trees Identifier × Tail Identifier = (ts, tail) in
    let e : q ≡ p = cc in
    subst (λ (x : Trees Identifier × Tail Identifier). 1 + (trees_size x.0 + tail_size x.1) ≤ tree_size (list ts tail o)) e (omega arith)
list_size (vector ts o) p h = absurd cc

pub first_size : (ts : Trees Identifier) (p : Tree Identifier × Trees Identifier) → first_of ts ≡ Ok p → tree_size p.0 + trees_size p.1 ≤ trees_size ts
first_size no_trees p h = absurd cc
first_size (tree t ts) p h =
    let q : Tree Identifier × Trees Identifier = (t, ts) in
    let e : q ≡ p = cc in
    subst (λ (x : Tree Identifier × Trees Identifier). tree_size x.0 + trees_size x.1 ≤ trees_size (tree t ts)) e (omega arith)

formals_in_count : (ts : Trees Identifier) (tail : Tail Identifier) (f : Formals Identifier) → formals_in ts tail ≡ Ok f → length f.names ≤ trees_size ts + tail_size tail
formals_in_count ts proper f h =
    let a = made (names_of ts) (λ ns. Ok (record { names = ns; rest = false })) f h in
    let at = a.then in
    let g : Formals Identifier = record { names = a.first; rest = false } in
    let e : g ≡ f = cc in
    omega (arith, ap (λ (x : Formals Identifier). length x.names) e, names_count ts a.first a.read)
formals_in_count ts (dotted t) f h =
    let a = made (names_of ts) (λ ns. name_of t >> λ n. Ok (record { names = ns ++ n ∷ []; rest = true })) f h in
    let b = made (name_of t) (λ n. Ok (record { names = a.first ++ n ∷ []; rest = true })) f a.then in
    let at = b.then in
    let g : Formals Identifier = record { names = a.first ++ b.first ∷ []; rest = true } in
    let e : g ≡ f = cc in
    omega (arith, ap (λ (x : Formals Identifier). length x.names) e, length-append a.first (b.first ∷ []), names_count ts a.first a.read, some_node t)

pub formals_count : (t : Tree Identifier) (f : Formals Identifier) → formals_of t ≡ Ok f → length f.names ≤ tree_size t
formals_count (name i o) f h =
    let g : Formals Identifier = record { names = named i o ∷ []; rest = true } in
    let e : g ≡ f = cc in
    omega (arith, ap (λ (x : Formals Identifier). length x.names) e)
formals_count (atom a o) f h = absurd cc
formals_count (list ts tail o) f h = omega (arith, formals_in_count ts tail f h)
formals_count (vector ts o) f h = absurd cc

-- ---- clauses

clause_size : (ts : Trees Identifier) (tail : Tail Identifier) (c : Clause Identifier) → clause_in ts tail ≡ Ok c → (length c.formals.names ≤ trees_size ts) × (trees_size c.body ≤ trees_size ts)
clause_size ts tail c h =
    let a = made (first_of ts) (λ p. formals_of p.0 >> λ f. some_of p.1 tail >> λ b. Ok (record { formals = f; body = b })) c h in
    let f = made (formals_of a.first.0) (λ f. some_of a.first.1 tail >> λ b. Ok (record { formals = f; body = b })) c a.then in
    let b = made (some_of a.first.1 tail) (λ b. Ok (record { formals = f.first; body = b })) c f.then in
    let at = b.then in
    let g : Clause Identifier = record { formals = f.first; body = b.first } in
    let e : g ≡ c = cc in
    let few = first_size ts a.first a.read in (
      omega (arith, ap (λ (x : Clause Identifier). length x.formals.names) e, formals_count a.first.0 f.first f.read, few),
      omega (arith, ap (λ (x : Clause Identifier). trees_size x.body) e, ap trees_size (some_is a.first.1 b.first tail b.read), few),
    )

pub clause_fits : (ts : Trees Identifier) (tail : Tail Identifier) (c : Clause Identifier) → trees_size ts ≤ 4194304 → clause_in ts tail ≡ Ok c → ClauseFits c
clause_fits ts tail c few h = let s = clause_size ts tail c h in (omega (arith, few, s.0), omega (arith, few, s.1))

pub clauses_fit : (ts : Trees Identifier) (cs : List (Clause Identifier)) → trees_size ts ≤ 4194304 → clauses_in ts ≡ Ok cs → ClausesFit cs
clauses_fit no_trees cs few h = let e : [] ≡ cs = cc in subst ClausesFit e tt
clauses_fit (tree t ts) cs few h =
    let a = made (list_of t) (λ p. clause_in p.0 p.1 >> λ c. clauses_in ts >> λ ds. Ok (c ∷ ds)) cs h in
    let c = made (clause_in a.first.0 a.first.1) (λ c. clauses_in ts >> λ ds. Ok (c ∷ ds)) cs a.then in
    let d = made (clauses_in ts) (λ ds. Ok (c.first ∷ ds)) cs c.then in
    let at = d.then in
    let e : c.first ∷ d.first ≡ cs = cc in
    let in_list = list_size t a.first a.read in
    subst ClausesFit e (clause_fits a.first.0 a.first.1 c.first (omega (arith, few, in_list)) c.read, clauses_fit ts d.first (omega (arith, few)) d.read)

lambda_fits : (ts : Trees Identifier) (tail : Tail Identifier) (c : Clause Identifier) → trees_size ts ≤ 4194304 → lambda_of same_ident ts tail ≡ Ok c → ClauseFits c
lambda_fits ts tail c few h =
    let a = made (clause_in ts tail) (λ c. distinct same_ident c.formals.names >> λ done. Ok c) c h in
    let b = made (distinct same_ident a.first.formals.names) (λ done. Ok a.first) c a.then in
    let at = b.then in
    let e : a.first ≡ c = cc in
    subst ClauseFits e (clause_fits ts tail a.first few a.read)

case_lambda_fits : (ts : Trees Identifier) (tail : Tail Identifier) (cs : List (Clause Identifier)) → trees_size ts ≤ 4194304 → case_lambda_of same_ident ts tail ≡ Ok cs → ClausesFit cs
case_lambda_fits ts tail cs few h =
    let a = made (proper_of ts tail >> clauses_in) (λ cs. distinct_all same_ident cs >> λ done. Ok cs) cs h in
    let b = made (distinct_all same_ident a.first) (λ done. Ok a.first) cs a.then in
    let c = made (proper_of ts tail) clauses_in a.first a.read in
    let at = b.then in
    let e : a.first ≡ cs = cc in
    subst ClausesFit e (clauses_fit c.first a.first (omega (arith, few, ap trees_size (proper_is ts c.first tail c.read))) c.then)

-- ---- local macros

bindings_count : (ts : Trees Identifier) (p : List (Named Identifier) × Trees Identifier) → bindings_of ts ≡ Ok p → length p.0 ≤ trees_size ts
bindings_count no_trees p h =
    let q : List (Named Identifier) × Trees Identifier = ([], no_trees) in
    let e : q ≡ p = cc in
    omega (arith, ap (λ (x : List (Named Identifier) × Trees Identifier). length x.0) e)
bindings_count (tree t ts) p h =
    let a = made (list_of t) (λ p. syntax_of p.0 p.1 >> λ b. bindings_of ts >> λ bs. Ok (b.0 ∷ bs.0, tree b.1 bs.1)) p h in
    let b = made (syntax_of a.first.0 a.first.1) (λ b. bindings_of ts >> λ bs. Ok (b.0 ∷ bs.0, tree b.1 bs.1)) p a.then in
    let c = made (bindings_of ts) (λ bs. Ok (b.first.0 ∷ bs.0, tree b.first.1 bs.1)) p b.then in
    let at = c.then in
    let q : List (Named Identifier) × Trees Identifier = (b.first.0 ∷ c.first.0, tree b.first.1 c.first.1) in
    let e : q ≡ p = cc in
    omega (arith, ap (λ (x : List (Named Identifier) × Trees Identifier). length x.0) e, bindings_count ts c.first c.read, some_node t)

abbrev LocalFits : LocalMacros Identifier → Type 0
LocalFits m = (length m.names ≤ 4194304) × (trees_size m.body ≤ 4194304)

local_fits : (ts : Trees Identifier) (tail : Tail Identifier) (m : LocalMacros Identifier) → trees_size ts ≤ 4194304 → local_macros_of same_ident ts tail ≡ Ok m → LocalFits m
local_fits ts tail m few h =
    let a = made (first_of ts) (λ p. list_of p.0 >> λ q. proper_of q.0 q.1 >> bindings_of >> λ bs. some_of p.1 tail >> λ body. distinct same_ident bs.0 >> λ done. Ok (record { names = bs.0; rules = bs.1; body = body })) m h in
    let b = made (list_of a.first.0) (λ q. proper_of q.0 q.1 >> bindings_of >> λ bs. some_of a.first.1 tail >> λ body. distinct same_ident bs.0 >> λ done. Ok (record { names = bs.0; rules = bs.1; body = body })) m a.then in
    let c = made (proper_of b.first.0 b.first.1 >> bindings_of) (λ bs. some_of a.first.1 tail >> λ body. distinct same_ident bs.0 >> λ done. Ok (record { names = bs.0; rules = bs.1; body = body })) m b.then in
    let d = made (proper_of b.first.0 b.first.1) bindings_of c.first c.read in
    let e = made (some_of a.first.1 tail) (λ body. distinct same_ident c.first.0 >> λ done. Ok (record { names = c.first.0; rules = c.first.1; body = body })) m c.then in
    let f = made (distinct same_ident c.first.0) (λ done. Ok (record { names = c.first.0; rules = c.first.1; body = e.first })) m e.then in
    let at = f.then in
    let g : LocalMacros Identifier = record { names = c.first.0; rules = c.first.1; body = e.first } in
    let is : g ≡ m = cc in
    let in_first = first_size ts a.first a.read in
    let in_list = list_size a.first.0 b.first b.read in
    let count = bindings_count d.first c.first d.then in
    let same : trees_size d.first ≡ trees_size b.first.0 = ap trees_size (proper_is b.first.0 d.first b.first.1 d.read) in
    let rest : trees_size e.first ≡ trees_size a.first.1 = ap trees_size (some_is a.first.1 e.first tail e.read) in
    subst LocalFits is (omega (arith, few, in_first, in_list, count, same), omega (arith, few, in_first, rest))

-- ---- definitions

procedure_fits : (p : Trees Identifier × Tail Identifier) (ts : Trees Identifier) (tail : Tail Identifier) (d : DefinitionShape Identifier) → trees_size p.0 + tail_size p.1 + trees_size ts ≤ 4194304 → procedure_of same_ident p ts tail ≡ Ok d → ShapeFits (Definition d)
procedure_fits p ts tail d few h =
    let a = made (first_of p.0) (λ q. name_of q.0 >> λ n. formals_in q.1 p.1 >> λ f. some_of ts tail >> λ b. distinct same_ident f.names >> λ done. Ok (define_procedure n (record { formals = f; body = b }))) d h in
    let n = made (name_of a.first.0) (λ n. formals_in a.first.1 p.1 >> λ f. some_of ts tail >> λ b. distinct same_ident f.names >> λ done. Ok (define_procedure n (record { formals = f; body = b }))) d a.then in
    let f = made (formals_in a.first.1 p.1) (λ f. some_of ts tail >> λ b. distinct same_ident f.names >> λ done. Ok (define_procedure n.first (record { formals = f; body = b }))) d n.then in
    let b = made (some_of ts tail) (λ b. distinct same_ident f.first.names >> λ done. Ok (define_procedure n.first (record { formals = f.first; body = b }))) d f.then in
    let c = made (distinct same_ident f.first.names) (λ done. Ok (define_procedure n.first (record { formals = f.first; body = b.first }))) d b.then in
    let at = c.then in
    let g : DefinitionShape Identifier = define_procedure n.first (record { formals = f.first; body = b.first }) in
    let e : g ≡ d = cc in
    let in_first = first_size p.0 a.first a.read in
    let count = formals_in_count a.first.1 p.1 f.first f.read in
    let rest : trees_size b.first ≡ trees_size ts = ap trees_size (some_is ts b.first tail b.read) in
    subst (λ (x : DefinitionShape Identifier). ShapeFits (Definition x)) e (omega (arith, few, in_first, count), omega (arith, few, rest))

definition_with_fits : (t : Tree Identifier) (ts : Trees Identifier) (tail : Tail Identifier) (d : DefinitionShape Identifier) → tree_size t + trees_size ts ≤ 4194304 → definition_with same_ident t ts tail ≡ Ok d → ShapeFits (Definition d)
definition_with_fits (name i o) ts tail d few h =
    let a = made (one_of ts tail) (λ t. Ok (Variable (named i o) t)) d h in
    let at = a.then in
    let g : DefinitionShape Identifier = Variable (named i o) a.first in
    let e : g ≡ d = cc in
    subst (λ (x : DefinitionShape Identifier). ShapeFits (Definition x)) e tt
definition_with_fits (atom a o) ts tail d few h = absurd cc
definition_with_fits (list us end o) ts tail d few h = procedure_fits (us, end) ts tail d (omega (arith, few)) h
definition_with_fits (vector us o) ts tail d few h = absurd cc

definition_fits : (ts : Trees Identifier) (tail : Tail Identifier) (d : DefinitionShape Identifier) → trees_size ts ≤ 4194304 → definition_of same_ident ts tail ≡ Ok d → ShapeFits (Definition d)
definition_fits ts tail d few h =
    let a = made (first_of ts) (λ p. definition_with same_ident p.0 p.1 tail) d h in
    definition_with_fits a.first.0 a.first.1 tail d (omega (arith, few, first_size ts a.first a.read)) a.then

-- ---- shapes

-- a shape of a kind of which nothing is asked
plainly : {B : Type 0} (r : Result B (Fault Identifier)) (make : B → Shape) (m : Shape) → ((b : B) → ShapeFits (make b)) → (r >> λ b. Ok (make b)) ≡ Ok m → ShapeFits m
plainly {B} r make m fit h =
    let a = made r (λ (b : B). Ok (make b)) m h in
    let at = a.then in
    let e : make a.first ≡ m = cc in
    subst ShapeFits e (fit a.first)

-- one of which something is
fitly : {B : Type 0} (r : Result B (Fault Identifier)) (make : B → Shape) (m : Shape) → ((b : B) → r ≡ Ok b → ShapeFits (make b)) → (r >> λ b. Ok (make b)) ≡ Ok m → ShapeFits m
fitly {B} r make m fit h =
    let a = made r (λ (b : B). Ok (make b)) m h in
    let at = a.then in
    let e : make a.first ≡ m = cc in
    subst ShapeFits e (fit a.first a.read)

-- a definition, where it has a place
placed : {B : Type 0} (expression : Bool) (r : Result B (Fault Identifier)) (make : B → Shape) (m : Shape) → ((b : B) → r ≡ Ok b → ShapeFits (make b)) → (r >> λ b. unless_expression expression (make b)) ≡ Ok m → ShapeFits m
placed {B} true r make m fit h = let a = made r (λ (b : B). unless_expression true (make b)) m h in let at = a.then in absurd cc
placed false r make m fit h = fitly r make m fit h

record_fits : (expression : Bool) (ts : Trees Identifier) (tail : Tail Identifier) (m : Shape) → record_shape_of expression ts tail ≡ Ok m → ShapeFits m
record_fits true ts tail m h = absurd cc
record_fits false ts tail m h = plainly (record_of same_ident ts tail) RecordType m (λ r. tt) h

quasi_fits : (mark : Identifier → Option Mark) (t : Tree Identifier) (m : Shape) → (quasi_of mark t >> λ p. Ok (Quasi t p)) ≡ Ok m → ShapeFits m
quasi_fits mark t m h = fitly (quasi_of mark t) (Quasi t) m (λ p is. (mark, is)) h

-- a core form of few nodes is of a shape that fits
pub shape_fits : (k : CoreKeyword) (expression : Bool) (mark : Identifier → Option Mark) (ts : Trees Identifier) (tail : Tail Identifier) (m : Shape) → trees_size ts ≤ 4194304 → shape_of k expression mark ts tail ≡ Ok m → ShapeFits m
shape_fits IsQuote expression mark ts tail m few h = plainly (one_of ts tail) Quoted m (λ t. tt) h
shape_fits IsQuasiquote expression mark ts tail m few h = let a = made (one_of ts tail) (λ t. quasi_of mark t >> λ p. Ok (Quasi t p)) m h in quasi_fits mark a.first m a.then
shape_fits IsLambda expression mark ts tail m few h = fitly (lambda_of same_ident ts tail) Procedure m (λ c is. lambda_fits ts tail c few is) h
shape_fits IsCaseLambda expression mark ts tail m few h = fitly (case_lambda_of same_ident ts tail) Procedures m (λ cs is. case_lambda_fits ts tail cs few is) h
shape_fits IsIf expression mark ts tail m few h = plainly (if_of ts tail) Conditional m (λ us. tt) h
shape_fits IsSet expression mark ts tail m few h = plainly (named_tree_of ts tail) Assignment m (λ p. tt) h
shape_fits IsBegin expression mark ts tail m few h = plainly (sequence_of expression ts tail) Sequence m (λ us. tt) h
shape_fits IsDefine expression mark ts tail m few h = placed expression (definition_of same_ident ts tail) Definition m (λ d is. definition_fits ts tail d few is) h
shape_fits IsDefineValues expression mark ts tail m few h = placed expression (values_of same_ident ts tail) Several m (λ p is. tt) h
shape_fits IsDefineRecordType expression mark ts tail m few h = record_fits expression ts tail m h
shape_fits IsDefineSyntax expression mark ts tail m few h = placed expression (syntax_of ts tail) Syntax m (λ p is. tt) h
shape_fits IsLetSyntax expression mark ts tail m few h = fitly (local_macros_of same_ident ts tail) Local m (λ l is. local_fits ts tail l few is) h
shape_fits IsLetrecSyntax expression mark ts tail m few h = fitly (local_macros_of same_ident ts tail) Local m (λ l is. local_fits ts tail l few is) h
shape_fits IsCondExpand expression mark ts tail m few h = plainly (some_of ts tail >> choices_in) Choices m (λ cs. tt) h
shape_fits IsSyntaxError expression mark ts tail m few h = plainly (error_text_of ts tail) ErrorText m (λ text. tt) h
shape_fits IsInclude expression mark ts tail m few h = let e : Inclusion ≡ m = cc in subst ShapeFits e tt
