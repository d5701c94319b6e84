-- Reading the shape of a core form commutes with a change that tells identifiers apart.
use Rattle.std.proofs.Common.{◌≡◌, List, [], ◌∷◌, map, Bool, true, false, cond, Result, Ok, Err, refl, sym, ap, subst, ◌∙◌}
use Rattle.std.specs.Prelude.{◌||◌}
use Rattle.scheme_model.specs.Trees.{Numeral, Quoted, Character, Boolean, Bytes, Tree, name, atom, list, vector, Trees, no_trees, tree, Tail, proper, dotted}
use Rattle.scheme_model.specs.ExpansionFaults.{Named, Fault, BadForm, ◌>>◌}
use Rattle.scheme_model.specs.Shapes.{Formals, Clause, name_of, names_of, is_among, distinct_from, distinct, formals_in, formals_of, proper_of, some_of, one_of, first_of, list_of, clause_in, lambda_of, clauses_in, distinct_all, case_lambda_of, if_of, named_tree_of, syntax_of, error_text_of, procedure_of, definition_with, definition_of, values_of, FieldShape, RecordShape, field_with, fields_of, constructor_of, all_among, record_in, or_bad_record, record_of, bindings_of, local_macros_of}
use Rattle.scheme_model.proofs.RenamingLaws.{map-append, map_turned}
use Rattle.renumbering_laws.specs.Moving.{Change, move_clause, move_named, move_tail, move_tree, move_trees}
use Rattle.renumbering_laws.proofs.MovingSteps.{Reads, reads, then_map, cond_reads}
use Rattle.renumbering_laws.proofs.MovedParts.{move_definition, move_field, move_formals, move_local_macros, move_record, move_result}

module _ (A B : Type 0) (f : Change A B) where
  -- a tree with trees, trees with a tail
  abbrev pub beside : Tree A × Trees A → Tree B × Trees B
  beside p = (move_tree f p.0, move_trees f p.1)

  abbrev pub with_tail : Trees A × Tail A → Trees B × Tail B
  with_tail p = (move_trees f p.0, move_tail f p.1)

  abbrev pub itself : {X : Type 0} → X → X
  itself x = x

  -- a name with a tree, with names, or with trees behind; formals with a tree
  abbrev pub named_beside : Named A × Tree A → Named B × Tree B
  named_beside p = (move_named f p.0, move_tree f p.1)

  abbrev pub named_before : Named A × List (Named A) → Named B × List (Named B)
  named_before p = (move_named f p.0, map (move_named f) p.1)

  abbrev pub named_with : List (Named A) × Trees A → List (Named B) × Trees B
  named_with p = (map (move_named f) p.0, move_trees f p.1)

  abbrev pub formals_beside : Formals A × Tree A → Formals B × Tree B
  formals_beside p = (move_formals f p.0, move_tree f p.1)

  pub name_of-map : (t : Tree A) → Reads f (move_named f) (name_of t) (name_of (move_tree f t))
  name_of-map (name i o) = reads refl
  name_of-map (atom a o) = reads refl
  name_of-map (list us tail o) = reads refl
  name_of-map (vector us o) = reads refl

  pub names_of-map : (ts : Trees A) → Reads f (map (move_named f)) (names_of ts) (names_of (move_trees f ts))
  names_of-map no_trees = reads refl
  names_of-map (tree t ts) = then_map _ (name_of-map t) (λ n. then_map _ (names_of-map ts) (λ ns. reads refl))

  formals_in-map : (ts : Trees A) (tail : Tail A) → Reads f (move_formals f) (formals_in ts tail) (formals_in (move_trees f ts) (move_tail f tail))
  formals_in-map ts proper = then_map _ (names_of-map ts) (λ ns. reads refl)
  formals_in-map ts (dotted t) = then_map _ (names_of-map ts) (λ ns. then_map _ (name_of-map t) (λ n. reads (ap (λ (ms : List (Named B)). Ok (record { names = ms; rest = true })) (sym (map-append (move_named f) ns (n ∷ []))))))

  formals_of-map : (t : Tree A) → Reads f (move_formals f) (formals_of t) (formals_of (move_tree f t))
  formals_of-map (name i o) = reads refl
  formals_of-map (atom a o) = reads refl
  formals_of-map (list ts tail o) = formals_in-map ts tail
  formals_of-map (vector ts o) = reads refl

  pub proper_of-map : (ts : Trees A) (tail : Tail A) → Reads f (move_trees f) (proper_of ts tail) (proper_of (move_trees f ts) (move_tail f tail))
  proper_of-map ts proper = reads refl
  proper_of-map ts (dotted t) = reads refl

  pub some_of-map : (ts : Trees A) (tail : Tail A) → Reads f (move_trees f) (some_of ts tail) (some_of (move_trees f ts) (move_tail f tail))
  some_of-map no_trees tail = reads refl
  some_of-map (tree t ts) tail = proper_of-map (tree t ts) tail

  pub one_of-map : (ts : Trees A) (tail : Tail A) → Reads f (move_tree f) (one_of ts tail) (one_of (move_trees f ts) (move_tail f tail))
  one_of-map no_trees tail = reads refl
  one_of-map (tree t no_trees) proper = reads refl
  one_of-map (tree t no_trees) (dotted u) = reads refl
  one_of-map (tree t (tree u us)) tail = reads refl

  pub first_of-map : (ts : Trees A) → Reads f beside (first_of ts) (first_of (move_trees f ts))
  first_of-map no_trees = reads refl
  first_of-map (tree t ts) = reads refl

  pub list_of-map : (t : Tree A) → Reads f with_tail (list_of t) (list_of (move_tree f t))
  list_of-map (name i o) = reads refl
  list_of-map (atom a o) = reads refl
  list_of-map (list ts tail o) = reads refl
  list_of-map (vector ts o) = reads refl

  clause_in-map : (ts : Trees A) (tail : Tail A) → Reads f (move_clause f) (clause_in ts tail) (clause_in (move_trees f ts) (move_tail f tail))
  clause_in-map ts tail = then_map _ (first_of-map ts) (λ p. then_map _ (formals_of-map p.0) (λ x. then_map _ (some_of-map p.1 tail) (λ b. reads refl)))

  clauses_in-map : (ts : Trees A) → Reads f (map (move_clause f)) (clauses_in ts) (clauses_in (move_trees f ts))
  clauses_in-map no_trees = reads refl
  clauses_in-map (tree t ts) = then_map _ (list_of-map t) (λ p. then_map _ (clause_in-map p.0 p.1) (λ c. then_map _ (clauses_in-map ts) (λ cs. reads refl)))

  pub if_of-map : (ts : Trees A) (tail : Tail A) → Reads f (move_trees f) (if_of ts tail) (if_of (move_trees f ts) (move_tail f tail))
  if_of-map no_trees proper = reads refl
  if_of-map (tree t no_trees) proper = reads refl
  if_of-map (tree t (tree u no_trees)) proper = reads refl
  if_of-map (tree t (tree u (tree v no_trees))) proper = reads refl
  if_of-map (tree t (tree u (tree v (tree w ws)))) proper = reads refl
  if_of-map ts (dotted t) = reads refl

  pub named_tree_of-map : (ts : Trees A) (tail : Tail A) → Reads f named_beside (named_tree_of ts tail) (named_tree_of (move_trees f ts) (move_tail f tail))
  named_tree_of-map ts tail = then_map _ (first_of-map ts) (λ p. then_map _ (name_of-map p.0) (λ n. then_map _ (one_of-map p.1 tail) (λ t. reads refl)))

  pub syntax_of-map : (ts : Trees A) (tail : Tail A) → Reads f named_beside (syntax_of ts tail) (syntax_of (move_trees f ts) (move_tail f tail))
  syntax_of-map ts tail = then_map _ (named_tree_of-map ts tail) (λ p. then_map _ (list_of-map p.1) (λ q. reads refl))

  error_text_of-first : (t : Tree A) (ts : Trees A) → Reads f itself (error_text_of (tree t ts) proper) (error_text_of (tree (move_tree f t) (move_trees f ts)) proper)
  error_text_of-first (name i o) ts = reads refl
  error_text_of-first (atom (Numeral s) o) ts = reads refl
  error_text_of-first (atom (Quoted s) o) ts = reads refl
  error_text_of-first (atom (Character c) o) ts = reads refl
  error_text_of-first (atom (Boolean b) o) ts = reads refl
  error_text_of-first (atom (Bytes s) o) ts = reads refl
  error_text_of-first (list us tail o) ts = reads refl
  error_text_of-first (vector us o) ts = reads refl

  pub error_text_of-map : (ts : Trees A) (tail : Tail A) → Reads f itself (error_text_of ts tail) (error_text_of (move_trees f ts) (move_tail f tail))
  error_text_of-map no_trees tail = reads refl
  error_text_of-map (tree t ts) proper = error_text_of-first t ts
  error_text_of-map (tree t ts) (dotted u) = reads refl

  field_with-map : (ns : List (Named A)) → Reads f (move_field f) (field_with ns) (field_with (map (move_named f) ns))
  field_with-map [] = reads refl
  field_with-map (n ∷ []) = reads refl
  field_with-map (n ∷ a ∷ []) = reads refl
  field_with-map (n ∷ a ∷ m ∷ []) = reads refl
  field_with-map (n ∷ a ∷ m ∷ k ∷ ks) = reads refl

  fields_of-map : (ts : Trees A) → Reads f (map (move_field f)) (fields_of ts) (fields_of (move_trees f ts))
  fields_of-map no_trees = reads refl
  fields_of-map (tree t ts) =
      then_map _ (list_of-map t) (λ p. then_map _ (then_map _ (then_map _ (proper_of-map p.0 p.1) names_of-map) field_with-map) (λ x. then_map _ (fields_of-map ts) (λ fs. reads refl)))

  constructor_of-map : (t : Tree A) → Reads f named_before (constructor_of t) (constructor_of (move_tree f t))
  constructor_of-map (name i o) = reads refl
  constructor_of-map (atom a o) = reads refl
  constructor_of-map (list ts tail o) = then_map _ (proper_of-map ts tail) (λ us. then_map _ (first_of-map us) (λ p. then_map _ (name_of-map p.0) (λ n. then_map _ (names_of-map p.1) (λ ns. reads refl))))
  constructor_of-map (vector ts o) = reads refl

  bindings_of-map : (ts : Trees A) → Reads f named_with (bindings_of ts) (bindings_of (move_trees f ts))
  bindings_of-map no_trees = reads refl
  bindings_of-map (tree t ts) = then_map _ (list_of-map t) (λ p. then_map _ (syntax_of-map p.0 p.1) (λ b. then_map _ (bindings_of-map ts) (λ bs. reads refl)))

  -- ---- names told apart

  module _ (same : A → A → Bool) (same' : B → B → Bool) (told : (i j : A) → same' (f.on i) (f.on j) ≡ same i j) where
    pub is_among-map : (i : A) (ns : List (Named A)) → is_among same' (f.on i) (map (move_named f) ns) ≡ is_among same i ns
    is_among-map i [] = refl
    is_among-map i (n ∷ ns) = let a = told n.name i in let b = is_among-map i ns in λ j. a j || b j

    distinct_from-map : (seen ns : List (Named A)) → Reads f itself (distinct_from same seen ns) (distinct_from same' (map (move_named f) seen) (map (move_named f) ns))
    distinct_from-map seen [] = reads refl
    distinct_from-map seen (n ∷ ns) =
        cond_reads (is_among-map n.name seen) (reads refl) (distinct_from-map (n ∷ seen) ns)

    pub distinct-map : (ns : List (Named A)) → Reads f itself (distinct same ns) (distinct same' (map (move_named f) ns))
    distinct-map ns = distinct_from-map [] ns

    pub lambda_of-map : (ts : Trees A) (tail : Tail A) → Reads f (move_clause f) (lambda_of same ts tail) (lambda_of same' (move_trees f ts) (move_tail f tail))
    lambda_of-map ts tail = then_map _ (clause_in-map ts tail) (λ c. then_map _ (distinct-map c.formals.names) (λ done. reads refl))

    distinct_all-map : (cs : List (Clause A)) → Reads f itself (distinct_all same cs) (distinct_all same' (map (move_clause f) cs))
    distinct_all-map [] = reads refl
    distinct_all-map (c ∷ cs) = then_map _ (distinct-map c.formals.names) (λ done. distinct_all-map cs)

    pub case_lambda_of-map : (ts : Trees A) (tail : Tail A) → Reads f (map (move_clause f)) (case_lambda_of same ts tail) (case_lambda_of same' (move_trees f ts) (move_tail f tail))
    case_lambda_of-map ts tail = then_map _ (then_map _ (proper_of-map ts tail) clauses_in-map) (λ cs. then_map _ (distinct_all-map cs) (λ done. reads refl))

    procedure_of-map : (p : Trees A × Tail A) (ts : Trees A) (tail : Tail A) → Reads f (move_definition f) (procedure_of same p ts tail) (procedure_of same' (with_tail p) (move_trees f ts) (move_tail f tail))
    procedure_of-map p ts tail =
        then_map _ (first_of-map p.0) (λ q. then_map _ (name_of-map q.0) (λ n. then_map _ (formals_in-map q.1 p.1) (λ x. then_map _ (some_of-map ts tail) (λ b. then_map _ (distinct-map x.names) (λ done. reads refl)))))

    definition_with-map : (t : Tree A) (ts : Trees A) (tail : Tail A) → Reads f (move_definition f) (definition_with same t ts tail) (definition_with same' (move_tree f t) (move_trees f ts) (move_tail f tail))
    definition_with-map (name i o) ts tail = then_map _ (one_of-map ts tail) (λ t. reads refl)
    definition_with-map (atom a o) ts tail = reads refl
    definition_with-map (list us end o) ts tail = procedure_of-map (us, end) ts tail
    definition_with-map (vector us o) ts tail = reads refl

    pub definition_of-map : (ts : Trees A) (tail : Tail A) → Reads f (move_definition f) (definition_of same ts tail) (definition_of same' (move_trees f ts) (move_tail f tail))
    definition_of-map ts tail = then_map _ (first_of-map ts) (λ p. definition_with-map p.0 p.1 tail)

    pub values_of-map : (ts : Trees A) (tail : Tail A) → Reads f formals_beside (values_of same ts tail) (values_of same' (move_trees f ts) (move_tail f tail))
    values_of-map ts tail = then_map _ (first_of-map ts) (λ p. then_map _ (formals_of-map p.0) (λ x. then_map _ (one_of-map p.1 tail) (λ t. then_map _ (distinct-map x.names) (λ done. reads refl))))

    all_among-map : (ns fields : List (Named A)) → all_among same' (map (move_named f) ns) (map (move_named f) fields) ≡ all_among same ns fields
    all_among-map [] fields = refl
    all_among-map (n ∷ ns) fields = let a = is_among-map n.name fields in let b = all_among-map ns fields in λ j. cond (a j) (b j) false

    field_names : (fs : List (FieldShape A)) → map (λ (x : FieldShape B). x.field) (map (move_field f) fs) ≡ map (move_named f) (map (λ (x : FieldShape A). x.field) fs)
    field_names fs = map_turned (λ (x : FieldShape B). x.field) (move_field f) (move_named f) (λ (x : FieldShape A). x.field) (λ x. refl) fs

    abbrev record_whole : {X : Type 0} → Named X → Named X × List (Named X) → Named X → List (FieldShape X) → Result (RecordShape X) (Fault X)
    record_whole n c pred fs = Ok (record { type = n; constructor = c.0; used = c.1; predicate = pred; fields = fs })

    record_end : (n : Named A) (c : Named A × List (Named A)) (pred : Named A) (fs : List (FieldShape A))
        → Reads f (move_record f)
        (distinct same (map (λ (x : FieldShape A). x.field) fs) >> λ done. cond (all_among same c.1 (map (λ (x : FieldShape A). x.field) fs)) (record_whole n c pred fs) (Err BadForm))
        (distinct same' (map (λ (x : FieldShape B). x.field) (map (move_field f) fs)) >> λ done.
        cond (all_among same' (map (move_named f) c.1) (map (λ (x : FieldShape B). x.field) (map (move_field f) fs))) (record_whole (move_named f n) (named_before c) (move_named f pred) (map (move_field f) fs)) (Err BadForm))
    record_end n c pred fs =
        then_map _ (distinct_names fs)
        (λ done. cond_reads (ap (all_among same' (map (move_named f) c.1)) (field_names fs) ∙ all_among-map c.1 (map (λ (x : FieldShape A). x.field) fs)) (reads refl) (reads refl))
      where
        distinct_names : (xs : List (FieldShape A)) → Reads f itself (distinct same (map (λ (x : FieldShape A). x.field) xs)) (distinct same' (map (λ (x : FieldShape B). x.field) (map (move_field f) xs)))
        distinct_names xs = subst (λ (ns : List (Named B)). Reads f itself (distinct same (map (λ (x : FieldShape A). x.field) xs)) (distinct same' ns)) (sym (field_names xs)) (distinct-map (map (λ (x : FieldShape A). x.field) xs))

    record_in-map : (ts : Trees A) (tail : Tail A) → Reads f (move_record f) (record_in same ts tail) (record_in same' (move_trees f ts) (move_tail f tail))
    record_in-map ts tail =
        then_map _ (proper_of-map ts tail) (λ us. then_map _ (first_of-map us) (λ p. then_map _ (name_of-map p.0) (λ n. then_map _ (first_of-map p.1) (λ q. then_map _ (constructor_of-map q.0) (λ c.
        then_map _ (first_of-map q.1) (λ r. then_map _ (name_of-map r.0) (λ pred. then_map _ (fields_of-map r.1) (λ fs. record_end n c pred fs))))))))

    bad_goes : (r : Result (RecordShape A) (Fault A)) (r' : Result (RecordShape B) (Fault B)) → Reads f (move_record f) r r' → Reads f (move_record f) (or_bad_record r) (or_bad_record r')
    bad_goes r r' (reads e) = subst (λ (q : Result (RecordShape B) (Fault B)). Reads f (move_record f) (or_bad_record r) (or_bad_record q)) (sym e) (go r)
      where
        go : (q : Result (RecordShape A) (Fault A)) → Reads f (move_record f) (or_bad_record q) (or_bad_record (move_result f (move_record f) q))
        go (Ok x) = reads refl
        go (Err d) = reads refl

    pub record_of-map : (ts : Trees A) (tail : Tail A) → Reads f (move_record f) (record_of same ts tail) (record_of same' (move_trees f ts) (move_tail f tail))
    record_of-map ts tail = bad_goes (record_in same ts tail) (record_in same' (move_trees f ts) (move_tail f tail)) (record_in-map ts tail)

    pub local_macros_of-map : (ts : Trees A) (tail : Tail A) → Reads f (move_local_macros f) (local_macros_of same ts tail) (local_macros_of same' (move_trees f ts) (move_tail f tail))
    local_macros_of-map ts tail =
        then_map _ (first_of-map ts) (λ p. then_map _ (list_of-map p.0) (λ q. then_map _ (then_map _ (proper_of-map q.0 q.1) bindings_of-map) (λ bs. then_map _ (some_of-map p.1 tail) (λ b. then_map _ (distinct-map bs.0) (λ done. reads refl)))))
