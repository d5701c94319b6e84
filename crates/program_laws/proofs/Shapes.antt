-- What is read from the shape of a core form is no larger than the form, and no reading ends the turns.
use Rattle.std.proofs.Common.{ℕ, suc, ◌+◌, ◌≤◌, List, [], ◌∷◌, ◌++◌, Bool, true, false, Option, Some, None, Result, Ok, Err, arith, if◌then◌else◌}
use Rattle.std.specs.Str.{bytes_eq}
use Rattle.std.specs.Prelude.{codes, ◌&&◌, ◌||◌, not}
use Rattle.std.specs.List.{list_all}
use Rattle.std.specs.Char.{is_ascii_digit}
use Rattle.scheme_model.specs.Trees.{Atom, Numeral, Quoted, Character, Boolean, Bytes, Tree, name, atom, list, vector, Trees, no_trees, tree, Tail, proper, dotted}
use Rattle.scheme_model.specs.Measures.{tree_size, trees_size, tail_size}
use Rattle.scheme_model.specs.ExpansionFaults.{Named, Fault, BadForm, DuplicateBinder, ◌>>◌}
use Rattle.scheme_model.specs.Shapes.{Formals, Clause, name_of, names_of, is_among, distinct_from, distinct, formals_in, formals_of, proper_of, some_of, one_of, first_of, list_of, clause_in, lambda_of, clauses_in, distinct_all, case_lambda_of, if_of, named_tree_of, syntax_of, error_text_of, DefinitionShape, Variable, Procedure, procedure_of, definition_with, definition_of, values_of, RecordShape, record_in, or_bad_record, record_of, LocalMacros, bindings_of, local_macros_of}
use Rattle.scheme_model.specs.Requirements.{Known, part_in, part_of, parts_of, library_name_of, holds, all_hold, some_holds, none_holds, is_else, clause_holds, or_chosen, choices, chosen_of}
use Rattle.program_laws.proofs.Faults.{Gives, Any, then_gives, either_gives, any_given, weaker}

module _ {A : Type 0} where
  -- ---- sizes

  abbrev pub TreeWithin : ℕ → Tree A → Type 0
  TreeWithin n t = tree_size t ≤ n

  abbrev pub TreesWithin : ℕ → Trees A → Type 0
  TreesWithin n ts = trees_size ts ≤ n

  abbrev pub ClauseWithin : ℕ → Clause A → Type 0
  ClauseWithin n c = trees_size c.body ≤ n

  abbrev pub ClausesWithin : ℕ → List (Clause A) → Type 0
  ClausesWithin n [] = Unit {0}
  ClausesWithin n (c ∷ cs) = ClauseWithin n c × ClausesWithin n cs

  abbrev FirstWithin : ℕ → Tree A × Trees A → Type 0
  FirstWithin n p = tree_size p.0 + trees_size p.1 ≤ n

  abbrev ListWithin : ℕ → Trees A × Tail A → Type 0
  ListWithin n p = suc (trees_size p.0 + tail_size p.1) ≤ n

  -- ---- names

  name_any : (t : Tree A) → Gives Any (name_of t)
  name_any (name i o) = tt
  name_any (atom a o) = tt
  name_any (list us tail o) = tt
  name_any (vector us o) = tt

  pub names_any : (ts : Trees A) → Gives Any (names_of ts)
  names_any no_trees = tt
  names_any (tree t ts) = then_gives Any Any (name_of t) (λ n. names_of ts >> λ ns. Ok (n ∷ ns)) (name_any t) (λ n h. then_gives Any Any (names_of ts) (λ ns. Ok (n ∷ ns)) (names_any ts) (λ ns k. tt))

  distinct_any : (same : A → A → Bool) (seen ns : List (Named A)) → Gives Any (distinct_from same seen ns)
  distinct_any same seen [] = tt
  distinct_any same seen (n ∷ ns) = either_gives Any (is_among same n.name seen) (Err (DuplicateBinder n)) (distinct_from same (n ∷ seen) ns) tt (distinct_any same (n ∷ seen) ns)

  formals_in_any : (ts : Trees A) (tail : Tail A) → Gives Any (formals_in ts tail)
  formals_in_any ts proper = then_gives Any Any (names_of ts) (λ ns. Ok (record { names = ns; rest = false })) (names_any ts) (λ ns h. tt)
  formals_in_any ts (dotted t) =
      then_gives Any Any (names_of ts) (λ ns. name_of t >> λ n. Ok (record { names = ns ++ n ∷ []; rest = true })) (names_any ts)
      (λ ns h. then_gives Any Any (name_of t) (λ n. Ok (record { names = ns ++ n ∷ []; rest = true })) (name_any t) (λ n k. tt))

  formals_any : (t : Tree A) → Gives Any (formals_of t)
  formals_any (name i o) = tt
  formals_any (atom a o) = tt
  formals_any (list ts tail o) = formals_in_any ts tail
  formals_any (vector ts o) = tt

  -- ---- lists of trees

  pub proper_within : (ts : Trees A) (tail : Tail A) → Gives (TreesWithin (trees_size ts)) (proper_of ts tail)
  proper_within ts proper = omega arith
  proper_within ts (dotted t) = tt

  pub some_within : (ts : Trees A) (tail : Tail A) → Gives (TreesWithin (trees_size ts)) (some_of ts tail)
  some_within no_trees tail = tt
  some_within (tree t ts) tail = proper_within (tree t ts) tail

  pub one_within : (ts : Trees A) (tail : Tail A) → Gives (TreeWithin (trees_size ts)) (one_of ts tail)
  one_within no_trees tail = tt
  one_within (tree t no_trees) proper = omega arith
  one_within (tree t no_trees) (dotted u) = tt
  one_within (tree t (tree u us)) tail = tt

  first_within : (ts : Trees A) → Gives (FirstWithin (trees_size ts)) (first_of ts)
  first_within no_trees = tt
  first_within (tree t ts) = omega arith

  list_within : (t : Tree A) → Gives (ListWithin (tree_size t)) (list_of t)
  list_within (name i o) = tt
  list_within (atom a o) = tt
  list_within (list ts tail o) = omega arith
  list_within (vector ts o) = tt

  -- ---- procedures

  clause_within : (n : ℕ) (ts : Trees A) (tail : Tail A) → trees_size ts ≤ n → Gives (ClauseWithin n) (clause_in ts tail)
  clause_within n ts tail le =
      then_gives (FirstWithin (trees_size ts)) (ClauseWithin n) (first_of ts) (λ p. formals_of p.0 >> λ f. some_of p.1 tail >> λ b. Ok (record { formals = f; body = b })) (first_within ts)
      (λ p h. then_gives Any (ClauseWithin n) (formals_of p.0) (λ f. some_of p.1 tail >> λ b. Ok (record { formals = f; body = b })) (formals_any p.0)
      (λ f k. then_gives (TreesWithin (trees_size p.1)) (ClauseWithin n) (some_of p.1 tail) (λ b. Ok (record { formals = f; body = b })) (some_within p.1 tail) (λ b l. omega arith)))

  pub lambda_within : (same : A → A → Bool) (ts : Trees A) (tail : Tail A) → Gives (ClauseWithin (trees_size ts)) (lambda_of same ts tail)
  lambda_within same ts tail =
      let P : Clause A → Type 0 = ClauseWithin (trees_size ts) in
      then_gives P P (clause_in ts tail) (λ c. distinct same c.formals.names >> λ done. Ok c) (clause_within (trees_size ts) ts tail (omega arith))
      (λ c h. then_gives Any P (distinct same c.formals.names) (λ done. Ok c) (distinct_any same [] c.formals.names) (λ d k. h))

  clauses_within : (n : ℕ) (ts : Trees A) → trees_size ts ≤ n → Gives (ClausesWithin n) (clauses_in ts)
  clauses_within n no_trees le = tt
  clauses_within n (tree t ts) le =
      then_gives (ListWithin (tree_size t)) (ClausesWithin n) (list_of t) (λ p. clause_in p.0 p.1 >> λ c. clauses_in ts >> λ cs. Ok (c ∷ cs)) (list_within t)
      (λ p h. then_gives (ClauseWithin n) (ClausesWithin n) (clause_in p.0 p.1) (λ c. clauses_in ts >> λ cs. Ok (c ∷ cs)) (clause_within n p.0 p.1 (omega arith))
      (λ c k. then_gives (ClausesWithin n) (ClausesWithin n) (clauses_in ts) (λ cs. Ok (c ∷ cs)) (clauses_within n ts (omega arith)) (λ cs l. (k, l))))

  distinct_all_any : (same : A → A → Bool) (cs : List (Clause A)) → Gives Any (distinct_all same cs)
  distinct_all_any same [] = tt
  distinct_all_any same (c ∷ cs) = then_gives Any Any (distinct same c.formals.names) (λ done. distinct_all same cs) (distinct_any same [] c.formals.names) (λ d h. distinct_all_any same cs)

  pub case_lambda_within : (same : A → A → Bool) (ts : Trees A) (tail : Tail A) → Gives (ClausesWithin (trees_size ts)) (case_lambda_of same ts tail)
  case_lambda_within same ts tail =
      let P : List (Clause A) → Type 0 = ClausesWithin (trees_size ts) in
      then_gives P P (proper_of ts tail >> clauses_in) (λ cs. distinct_all same cs >> λ done. Ok cs)
      (then_gives (TreesWithin (trees_size ts)) P (proper_of ts tail) clauses_in (proper_within ts tail) (λ us h. clauses_within (trees_size ts) us h))
      (λ cs h. then_gives Any P (distinct_all same cs) (λ done. Ok cs) (distinct_all_any same cs) (λ d k. h))

  -- ---- expressions

  pub if_within : (ts : Trees A) (tail : Tail A) → Gives (TreesWithin (trees_size ts)) (if_of ts tail)
  if_within ts (dotted u) = tt
  if_within no_trees proper = tt
  if_within (tree t no_trees) proper = tt
  if_within (tree t (tree u no_trees)) proper = omega arith
  if_within (tree t (tree u (tree v no_trees))) proper = omega arith
  if_within (tree t (tree u (tree v (tree w ws)))) proper = tt

  abbrev pub NamedWithin : ℕ → Named A × Tree A → Type 0
  NamedWithin n p = tree_size p.1 ≤ n

  pub named_tree_within : (ts : Trees A) (tail : Tail A) → Gives (NamedWithin (trees_size ts)) (named_tree_of ts tail)
  named_tree_within ts tail =
      let P : Named A × Tree A → Type 0 = NamedWithin (trees_size ts) in
      then_gives (FirstWithin (trees_size ts)) P (first_of ts) (λ p. name_of p.0 >> λ n. one_of p.1 tail >> λ t. Ok (n, t)) (first_within ts)
      (λ p h. then_gives Any P (name_of p.0) (λ n. one_of p.1 tail >> λ t. Ok (n, t)) (name_any p.0)
      (λ n k. then_gives (TreeWithin (trees_size p.1)) P (one_of p.1 tail) (λ t. Ok (n, t)) (one_within p.1 tail) (λ t l. omega arith)))

  pub syntax_within : (ts : Trees A) (tail : Tail A) → Gives (NamedWithin (trees_size ts)) (syntax_of ts tail)
  syntax_within ts tail =
      let P : Named A × Tree A → Type 0 = NamedWithin (trees_size ts) in
      then_gives P P (named_tree_of ts tail) (λ p. list_of p.1 >> λ rules. Ok p) (named_tree_within ts tail)
      (λ p h. then_gives Any P (list_of p.1) (λ rules. Ok p) (any_given (ListWithin (tree_size p.1)) (list_of p.1) (list_within p.1)) (λ r k. h))

  text_any : (t : Tree A) (ts : Trees A) → Gives Any (error_text_of (tree t ts) proper)
  text_any (name i o) ts = tt
  text_any (atom (Numeral s) o) ts = tt
  text_any (atom (Quoted s) o) ts = tt
  text_any (atom (Character c) o) ts = tt
  text_any (atom (Boolean b) o) ts = tt
  text_any (atom (Bytes s) o) ts = tt
  text_any (list us tail o) ts = tt
  text_any (vector us o) ts = tt

  pub error_text_any : (ts : Trees A) (tail : Tail A) → Gives Any (error_text_of ts tail)
  error_text_any no_trees tail = tt
  error_text_any (tree t ts) (dotted u) = tt
  error_text_any (tree t ts) proper = text_any t ts

  -- ---- definitions

  abbrev pub DefinitionWithin : ℕ → DefinitionShape A → Type 0
  DefinitionWithin n (Variable i t) = tree_size t ≤ n
  DefinitionWithin n (Procedure i c) = ClauseWithin n c

  procedure_within : (same : A → A → Bool) (n : ℕ) (p : Trees A × Tail A) (ts : Trees A) (tail : Tail A) → trees_size ts ≤ n → Gives (DefinitionWithin n) (procedure_of same p ts tail)
  procedure_within same n p ts tail le =
      then_gives Any (DefinitionWithin n) (first_of p.0) (λ q. name_of q.0 >> λ i. formals_in q.1 p.1 >> λ f. some_of ts tail >> λ b. distinct same f.names >> λ done. Ok (Procedure i (record { formals = f; body = b }))) (any_given (FirstWithin (trees_size p.0)) (first_of p.0) (first_within p.0))
      (λ q h. then_gives Any (DefinitionWithin n) (name_of q.0) (λ i. formals_in q.1 p.1 >> λ f. some_of ts tail >> λ b. distinct same f.names >> λ done. Ok (Procedure i (record { formals = f; body = b }))) (name_any q.0)
      (λ i k. then_gives Any (DefinitionWithin n) (formals_in q.1 p.1) (λ f. some_of ts tail >> λ b. distinct same f.names >> λ done. Ok (Procedure i (record { formals = f; body = b }))) (formals_in_any q.1 p.1)
      (λ f l. then_gives (TreesWithin (trees_size ts)) (DefinitionWithin n) (some_of ts tail) (λ b. distinct same f.names >> λ done. Ok (Procedure i (record { formals = f; body = b }))) (some_within ts tail)
      (λ b w. then_gives Any (DefinitionWithin n) (distinct same f.names) (λ done. Ok (Procedure i (record { formals = f; body = b }))) (distinct_any same [] f.names) (λ d x. omega arith)))))

  with_within : (same : A → A → Bool) (n : ℕ) (t : Tree A) (ts : Trees A) (tail : Tail A) → trees_size ts ≤ n → Gives (DefinitionWithin n) (definition_with same t ts tail)
  with_within same n (name i o) ts tail le = then_gives (TreeWithin (trees_size ts)) (DefinitionWithin n) (one_of ts tail) (λ t. Ok (Variable (record { name = i; occ = o }) t)) (one_within ts tail) (λ t h. omega arith)
  with_within same n (atom a o) ts tail le = tt
  with_within same n (list us end o) ts tail le = procedure_within same n (us, end) ts tail le
  with_within same n (vector us o) ts tail le = tt

  pub definition_within : (same : A → A → Bool) (ts : Trees A) (tail : Tail A) → Gives (DefinitionWithin (trees_size ts)) (definition_of same ts tail)
  definition_within same ts tail = then_gives (FirstWithin (trees_size ts)) (DefinitionWithin (trees_size ts)) (first_of ts) (λ p. definition_with same p.0 p.1 tail) (first_within ts) (λ p h. with_within same (trees_size ts) p.0 p.1 tail (omega arith))

  abbrev pub ValuesWithin : ℕ → Formals A × Tree A → Type 0
  ValuesWithin n p = tree_size p.1 ≤ n

  pub values_within : (same : A → A → Bool) (ts : Trees A) (tail : Tail A) → Gives (ValuesWithin (trees_size ts)) (values_of same ts tail)
  values_within same ts tail =
      let P : Formals A × Tree A → Type 0 = ValuesWithin (trees_size ts) in
      then_gives (FirstWithin (trees_size ts)) P (first_of ts) (λ p. formals_of p.0 >> λ f. one_of p.1 tail >> λ t. distinct same f.names >> λ done. Ok (f, t)) (first_within ts)
      (λ p h. then_gives Any P (formals_of p.0) (λ f. one_of p.1 tail >> λ t. distinct same f.names >> λ done. Ok (f, t)) (formals_any p.0)
      (λ f k. then_gives (TreeWithin (trees_size p.1)) P (one_of p.1 tail) (λ t. distinct same f.names >> λ done. Ok (f, t)) (one_within p.1 tail)
      (λ t l. then_gives Any P (distinct same f.names) (λ done. Ok (f, t)) (distinct_any same [] f.names) (λ d x. omega arith))))

  -- ---- records

  bad_record_any : (r : Result (RecordShape A) (Fault A)) → Gives Any (or_bad_record r)
  bad_record_any (Ok r) = tt
  bad_record_any (Err e) = tt

  pub record_any : (same : A → A → Bool) (ts : Trees A) (tail : Tail A) → Gives Any (record_of same ts tail)
  record_any same ts tail = bad_record_any (record_in same ts tail)

  -- ---- local macros

  abbrev BindingsWithin : ℕ → List (Named A) × Trees A → Type 0
  BindingsWithin n p = trees_size p.1 ≤ n

  bindings_within : (ts : Trees A) → Gives (BindingsWithin (trees_size ts)) (bindings_of ts)
  bindings_within no_trees = omega arith
  bindings_within (tree t ts) =
      let P : List (Named A) × Trees A → Type 0 = BindingsWithin (tree_size t + trees_size ts) in
      then_gives (ListWithin (tree_size t)) P (list_of t) (λ p. syntax_of p.0 p.1 >> λ b. bindings_of ts >> λ bs. Ok (b.0 ∷ bs.0, tree b.1 bs.1)) (list_within t)
      (λ p h. then_gives (NamedWithin (trees_size p.0)) P (syntax_of p.0 p.1) (λ b. bindings_of ts >> λ bs. Ok (b.0 ∷ bs.0, tree b.1 bs.1)) (syntax_within p.0 p.1)
      (λ b k. then_gives (BindingsWithin (trees_size ts)) P (bindings_of ts) (λ bs. Ok (b.0 ∷ bs.0, tree b.1 bs.1)) (bindings_within ts) (λ bs l. omega arith)))

  abbrev pub MacrosWithin : ℕ → LocalMacros A → Type 0
  MacrosWithin n m = suc (trees_size m.rules) + trees_size m.body ≤ n

  pub local_macros_within : (same : A → A → Bool) (ts : Trees A) (tail : Tail A) → Gives (MacrosWithin (trees_size ts)) (local_macros_of same ts tail)
  local_macros_within same ts tail =
      let P : LocalMacros A → Type 0 = MacrosWithin (trees_size ts) in
      then_gives (FirstWithin (trees_size ts)) P (first_of ts) (λ p. list_of p.0 >> λ q. proper_of q.0 q.1 >> bindings_of >> λ bs. some_of p.1 tail >> λ body. distinct same bs.0 >> λ done. Ok (record { names = bs.0; rules = bs.1; body = body })) (first_within ts)
      (λ p h. then_gives (ListWithin (tree_size p.0)) P (list_of p.0) (λ q. proper_of q.0 q.1 >> bindings_of >> λ bs. some_of p.1 tail >> λ body. distinct same bs.0 >> λ done. Ok (record { names = bs.0; rules = bs.1; body = body })) (list_within p.0)
      (λ q k. then_gives (BindingsWithin (trees_size q.0)) P (proper_of q.0 q.1 >> bindings_of) (λ bs. some_of p.1 tail >> λ body. distinct same bs.0 >> λ done. Ok (record { names = bs.0; rules = bs.1; body = body }))
      (then_gives (TreesWithin (trees_size q.0)) (BindingsWithin (trees_size q.0)) (proper_of q.0 q.1) bindings_of (proper_within q.0 q.1) (λ us x. weaker (BindingsWithin (trees_size us)) (BindingsWithin (trees_size q.0)) (bindings_of us) (bindings_within us) (λ bs y. omega arith)))
      (λ bs l. then_gives (TreesWithin (trees_size p.1)) P (some_of p.1 tail) (λ body. distinct same bs.0 >> λ done. Ok (record { names = bs.0; rules = bs.1; body = body })) (some_within p.1 tail)
      (λ b x. then_gives Any P (distinct same bs.0) (λ done. Ok (record { names = bs.0; rules = bs.1; body = b })) (distinct_any same [] bs.0) (λ d y. omega arith)))))

  -- ---- requirements

  module _ (strip : A → List ℕ) (known : Known) where
    part_in_any : (a : Atom) → Gives {A = A} Any (part_in a)
    part_in_any (Numeral s) = either_gives Any (list_all is_ascii_digit s) (Ok _) (Err BadForm) tt tt
    part_in_any (Quoted s) = tt
    part_in_any (Character c) = tt
    part_in_any (Boolean b) = tt
    part_in_any (Bytes s) = tt

    part_any : (t : Tree A) → Gives Any (part_of strip t)
    part_any (name i o) = tt
    part_any (atom a o) = part_in_any a
    part_any (list ts tail o) = tt
    part_any (vector ts o) = tt

    parts_any : (ts : Trees A) → Gives Any (parts_of strip ts)
    parts_any no_trees = tt
    parts_any (tree t ts) = then_gives Any Any (part_of strip t) (λ p. parts_of strip ts >> λ ps. Ok (p ∷ ps)) (part_any t) (λ p h. then_gives Any Any (parts_of strip ts) (λ ps. Ok (p ∷ ps)) (parts_any ts) (λ ps k. tt))

    library_any : (t : Tree A) → Gives Any (library_name_of strip t)
    library_any t =
        then_gives (ListWithin (tree_size t)) Any (list_of t) (λ p. some_of p.0 p.1 >> parts_of strip) (list_within t)
        (λ p h. then_gives (TreesWithin (trees_size p.0)) Any (some_of p.0 p.1) (parts_of strip) (some_within p.0 p.1) (λ us k. parts_any us))

    by_word : {V : Type 0} (a b c d : Bool) (w x y z : Result V (Fault A)) → Gives Any w → Gives Any x → Gives Any y → Gives Any z → Gives Any (if a then w else if b then x else if c then y else if d then z else Err BadForm)
    by_word true b c d w x y z h k l m = h
    by_word false true c d w x y z h k l m = k
    by_word false false true d w x y z h k l m = l
    by_word false false false true w x y z h k l m = m
    by_word false false false false w x y z h k l m = tt

    mutual
      holds_any : (t : Tree A) → Gives Any (holds strip known t)
      holds_any (name i o) = tt
      holds_any (atom a o) = tt
      holds_any (vector ts o) = tt
      holds_any (list no_trees tail o) = tt
      holds_any (list (tree (atom a p) ts) tail o) = tt
      holds_any (list (tree (list us end p) ts) tail o) = tt
      holds_any (list (tree (vector us p) ts) tail o) = tt
      holds_any (list (tree (name i p) ts) (dotted u) o) = tt
      holds_any (list (tree (name i p) ts) proper o) =
          by_word (bytes_eq (strip i) (codes "and")) (bytes_eq (strip i) (codes "or")) (bytes_eq (strip i) (codes "not")) (bytes_eq (strip i) (codes "library"))
          (all_hold strip known ts) (some_holds strip known ts) (none_holds strip known ts) (one_of ts proper >> library_name_of strip >> λ n. Ok (known n))
          (all_any ts) (some_any ts) (none_any ts)
          (then_gives Any Any (one_of ts proper >> library_name_of strip) (λ n. Ok (known n)) (then_gives (TreeWithin (trees_size ts)) Any (one_of ts proper) (library_name_of strip) (one_within ts proper) (λ t h. library_any t)) (λ n h. tt))

      all_any : (ts : Trees A) → Gives Any (all_hold strip known ts)
      all_any no_trees = tt
      all_any (tree t ts) = then_gives Any Any (holds strip known t) (λ a. all_hold strip known ts >> λ b. Ok (a && b)) (holds_any t) (λ a h. then_gives Any Any (all_hold strip known ts) (λ b. Ok (a && b)) (all_any ts) (λ b k. tt))

      some_any : (ts : Trees A) → Gives Any (some_holds strip known ts)
      some_any no_trees = tt
      some_any (tree t ts) = then_gives Any Any (holds strip known t) (λ a. some_holds strip known ts >> λ b. Ok (a || b)) (holds_any t) (λ a h. then_gives Any Any (some_holds strip known ts) (λ b. Ok (a || b)) (some_any ts) (λ b k. tt))

      none_any : (ts : Trees A) → Gives Any (none_holds strip known ts)
      none_any no_trees = tt
      none_any (tree t no_trees) = then_gives Any Any (holds strip known t) (λ a. Ok (not a)) (holds_any t) (λ a h. tt)
      none_any (tree t (tree u us)) = tt

    clause_any : (t : Tree A) (ts : Trees A) → Gives Any (clause_holds strip known t ts)
    clause_any t no_trees = either_gives Any (is_else strip t) (Ok true) (holds strip known t) tt (holds_any t)
    clause_any t (tree u us) = either_gives Any (is_else strip t) (Err BadForm) (holds strip known t) tt (holds_any t)

    abbrev pub ChosenWithin : ℕ → Option (Trees A) → Type 0
    ChosenWithin n None = Unit {0}
    ChosenWithin n (Some ts) = trees_size ts ≤ n

    or_within : (n : ℕ) (b : Bool) (ts : Trees A) (o : Option (Trees A)) → trees_size ts ≤ n → ChosenWithin n o → ChosenWithin n (or_chosen b ts o)
    or_within n true ts o h k = h
    or_within n false ts o h k = k

    choices_within : (n : ℕ) (ts : Trees A) → trees_size ts ≤ n → Gives (ChosenWithin n) (choices strip known ts)
    choices_within n no_trees le = tt
    choices_within n (tree t ts) le =
        then_gives (ListWithin (tree_size t)) (ChosenWithin n) (list_of t) (λ p. some_of p.0 p.1 >> first_of >> λ q. clause_holds strip known q.0 ts >> λ b. choices strip known ts >> λ later. Ok (or_chosen b q.1 later)) (list_within t)
        (λ p h. then_gives (FirstWithin (trees_size p.0)) (ChosenWithin n) (some_of p.0 p.1 >> first_of) (λ q. clause_holds strip known q.0 ts >> λ b. choices strip known ts >> λ later. Ok (or_chosen b q.1 later))
        (then_gives (TreesWithin (trees_size p.0)) (FirstWithin (trees_size p.0)) (some_of p.0 p.1) first_of (some_within p.0 p.1) (λ us x. weaker (FirstWithin (trees_size us)) (FirstWithin (trees_size p.0)) (first_of us) (first_within us) (λ q y. omega arith)))
        (λ q k. then_gives Any (ChosenWithin n) (clause_holds strip known q.0 ts) (λ b. choices strip known ts >> λ later. Ok (or_chosen b q.1 later)) (clause_any q.0 ts)
        (λ b l. then_gives (ChosenWithin n) (ChosenWithin n) (choices strip known ts) (λ later. Ok (or_chosen b q.1 later)) (choices_within n ts (omega arith)) (λ o x. or_within n b q.1 o (omega arith) x))))

    pub chosen_within : (ts : Trees A) (tail : Tail A) → Gives (ChosenWithin (trees_size ts)) (chosen_of strip known ts tail)
    chosen_within ts tail = then_gives (TreesWithin (trees_size ts)) (ChosenWithin (trees_size ts)) (some_of ts tail) (choices strip known) (some_within ts tail) (λ us h. choices_within (trees_size ts) us h)
