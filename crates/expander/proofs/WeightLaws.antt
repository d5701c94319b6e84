-- A core form that splices or defines hands on fewer nodes, or defines and binds fewer names, than it has nodes.
use Rattle.std.proofs.Common.{◌≡◌, ℕ, ◌+◌, ◌<◌, ◌≤◌, List, [], ◌∷◌, map, length, Bool, true, false, Option, Some, None, Result, Ok, Err, ap, subst, arith}
use Rattle.std.specs.Prelude.{if◌then◌else◌}
use Rattle.std.proofs.lemmas.List.{length-append, length-map}
use Rattle.scheme_model.specs.Trees.{Tree, Trees, no_trees, tree, Tail}
use Rattle.scheme_model.specs.Measures.{tree_size, trees_size, tail_size}
use Rattle.scheme_model.specs.ExpansionFaults.{Named, Fault, BadForm, ◌>>◌}
use Rattle.scheme_model.specs.Keywords.{CoreKeyword, IsQuote, IsQuasiquote, IsLambda, IsCaseLambda, IsIf, IsSet, IsBegin, IsDefine, IsDefineValues, IsDefineRecordType, IsDefineSyntax, IsLetSyntax, IsLetrecSyntax, IsCondExpand, IsSyntaxError, IsInclude}
use Rattle.scheme_model.specs.Quasiquote.{Mark}
use Rattle.scheme_model.specs.Requirements.{Known, or_chosen}
use Rattle.scheme_model.specs.Shapes.{Formals, FieldShape, RecordShape, first_of, list_of, some_of, proper_of, one_of, name_of, names_of, formals_of, distinct, definition_of, values_of, field_with, fields_of, constructor_of, all_among, record_in, or_bad_record, record_of, syntax_of}
use Rattle.scheme_model.specs.Ident.{Ident as Identifier, same_ident}
use Rattle.scheme_model.specs.Order.{modifiers, record_names, or_none}
use Rattle.core_forms.specs.Forms.{Shape, Sequence, Definition, Several, RecordType, Syntax, Choices, choice_of, choices_in, shape_of}
use Rattle.feature_requirements.specs.Judged.{clause_judged, is_nil, chosen_among}
use Rattle.expander.specs.Passed.{IsPassed, choices_size, shape_weight}
use Rattle.form_parts.specs.FormsSeen.{takes_effect}
use Rattle.expander.proofs.FitLaws.{made, some_node, names_count, proper_is, some_is, list_size, first_size, formals_count}

-- ---- clauses of `cond-expand`

choice_size : (t : Tree Identifier) (c : Tree Identifier × Trees Identifier) → choice_of t ≡ Ok c → trees_size c.1 ≤ tree_size t
choice_size t c h =
    let a = made (list_of t) (λ p. some_of p.0 p.1 >> first_of) c h in
    let b = made (some_of a.first.0 a.first.1) first_of c a.then in
    let in_list = list_size t a.first a.read in
    let whole : trees_size b.first ≡ trees_size a.first.0 = ap trees_size (some_is a.first.0 b.first a.first.1 b.read) in
    let rest = first_size b.first c b.then in
    omega (arith, in_list, whole, rest)

choices_fit : (ts : Trees Identifier) (cs : List (Tree Identifier × Trees Identifier)) → choices_in ts ≡ Ok cs → choices_size cs ≤ trees_size ts
choices_fit no_trees cs h = let e : [] ≡ cs = cc in subst (λ (x : List (Tree Identifier × Trees Identifier)). choices_size x ≤ 0) e (omega arith)
choices_fit (tree t ts) cs h =
    let a = made (choice_of t) (λ y. choices_in ts >> λ ys. Ok (y ∷ ys)) cs h in
    let b = made (choices_in ts) (λ ys. Ok (a.first ∷ ys)) cs a.then in
    let at = b.then in
    let e : a.first ∷ b.first ≡ cs = cc in
    let first = choice_size t a.first a.read in
    let rest = choices_fit ts b.first b.read in
    subst (λ (x : List (Tree Identifier × Trees Identifier)). choices_size x ≤ tree_size t + trees_size ts) e (omega (arith, first, rest))

-- the chosen forms are those of one clause
pub chosen_fits : (known : Known) (cs : List (Tree Identifier × Trees Identifier)) (o : Option (Trees Identifier)) → chosen_among known cs ≡ Ok o → trees_size (or_none o) ≤ choices_size cs
chosen_fits known [] o h = let e : None ≡ o = cc in subst (λ (x : Option (Trees Identifier)). trees_size (or_none x) ≤ 0) e (omega arith)
chosen_fits known (c ∷ cs) o h =
    let a = made (clause_judged known c.0 (is_nil cs)) (λ b. chosen_among known cs >> λ later. Ok (or_chosen b c.1 later)) o h in
    let b = made (chosen_among known cs) (λ later. Ok (or_chosen a.first c.1 later)) o a.then in
    let at = b.then in
    let e : or_chosen a.first c.1 b.first ≡ o = cc in
    let rest = chosen_fits known cs b.first b.read in
    subst (λ (x : Option (Trees Identifier)). trees_size (or_none x) ≤ trees_size c.1 + choices_size cs) e (by a.first b.first rest)
  where
    by : (b : Bool) (later : Option (Trees Identifier)) → trees_size (or_none later) ≤ choices_size cs → trees_size (or_none (or_chosen b c.1 later)) ≤ trees_size c.1 + choices_size cs
    by true later rest = omega arith
    by false later rest = omega (arith, rest)

-- ---- records

-- a field and what is defined for it
abbrev field_weight : FieldShape Identifier → ℕ
field_weight f = 2 + length (modifiers (f ∷ []))

abbrev fields_weight : List (FieldShape Identifier) → ℕ
fields_weight [] = 0
fields_weight (f ∷ fs) = field_weight f + fields_weight fs

some_modifiers : (f : FieldShape Identifier) (fs : List (FieldShape Identifier)) → length (modifiers (f ∷ fs)) ≡ length (modifiers (f ∷ [])) + length (modifiers fs)
some_modifiers f fs = by f.modifier
  where
    by : (o : Option (Named Identifier)) → length (modifiers (record { field = f.field; accessor = f.accessor; modifier = o } ∷ fs)) ≡ length (modifiers (record { field = f.field; accessor = f.accessor; modifier = o } ∷ [])) + length (modifiers fs)
    by None = omega arith
    by (Some m) = omega arith

names_weight : (fs : List (FieldShape Identifier)) → length fs + (length fs + length (modifiers fs)) ≡ fields_weight fs
names_weight [] = omega arith
names_weight (f ∷ fs) = let e = some_modifiers f fs in let h = names_weight fs in omega (arith, e, h)

field_size : (ns : List (Named Identifier)) (f : FieldShape Identifier) → field_with ns ≡ Ok f → field_weight f ≤ length ns + 1
field_size [] f h = absurd cc
field_size (n ∷ []) f h = absurd cc
field_size (n ∷ a ∷ []) f h =
    let g : FieldShape Identifier = record { field = n; accessor = a; modifier = None } in
    let e : g ≡ f = cc in
    subst (λ (x : FieldShape Identifier). field_weight x ≤ 3) e (omega arith)
field_size (n ∷ a ∷ m ∷ []) f h =
    let g : FieldShape Identifier = record { field = n; accessor = a; modifier = Some m } in
    let e : g ≡ f = cc in
    subst (λ (x : FieldShape Identifier). field_weight x ≤ 4) e (omega arith)
field_size (n ∷ a ∷ m ∷ k ∷ ks) f h = absurd cc

fields_size : (ts : Trees Identifier) (fs : List (FieldShape Identifier)) → fields_of ts ≡ Ok fs → fields_weight fs ≤ trees_size ts
fields_size no_trees fs h = let e : [] ≡ fs = cc in subst (λ (x : List (FieldShape Identifier)). fields_weight x ≤ 0) e (omega arith)
fields_size (tree t ts) fs h =
    let a = made (list_of t) (λ p. proper_of p.0 p.1 >> names_of >> field_with >> λ f. fields_of ts >> λ gs. Ok (f ∷ gs)) fs h in
    let b = made (proper_of a.first.0 a.first.1 >> names_of >> field_with) (λ f. fields_of ts >> λ gs. Ok (f ∷ gs)) fs a.then in
    let c = made (proper_of a.first.0 a.first.1 >> names_of) field_with b.first b.read in
    let d = made (proper_of a.first.0 a.first.1) names_of c.first c.read in
    let g = made (fields_of ts) (λ gs. Ok (b.first ∷ gs)) fs b.then in
    let at = g.then in
    let e : b.first ∷ g.first ≡ fs = cc in
    let in_list = list_size t a.first a.read in
    let whole : trees_size d.first ≡ trees_size a.first.0 = ap trees_size (proper_is a.first.0 d.first a.first.1 d.read) in
    let count = names_count d.first c.first d.then in
    let one = field_size c.first b.first c.then in
    let rest = fields_size ts g.first g.read in
    subst (λ (x : List (FieldShape Identifier)). fields_weight x ≤ tree_size t + trees_size ts) e (omega (arith, in_list, whole, count, one, rest))

-- a record whose constructor uses its own fields
abbrev kept_or : Bool → RecordShape Identifier → Result (RecordShape Identifier) (Fault Identifier)
kept_or b s = if b then Ok s else Err BadForm

kept_fields : (b : Bool) (s r : RecordShape Identifier) → kept_or b s ≡ Ok r → s.fields ≡ r.fields
kept_fields true s r e = let same : s ≡ r = cc in ap (λ (x : RecordShape Identifier). x.fields) same
kept_fields false s r e = absurd cc

-- what is read behind the fields, behind the predicate, and so on
abbrev behind_fields : Named Identifier → Named Identifier × List (Named Identifier) → Named Identifier → List (FieldShape Identifier) → Result (RecordShape Identifier) (Fault Identifier)
behind_fields n c pred fs =
    distinct same_ident (map (λ f. f.field) fs) >> λ done. kept_or (all_among same_ident c.1 (map (λ f. f.field) fs)) (record { type = n; constructor = c.0; used = c.1; predicate = pred; fields = fs })

abbrev behind_constructor : Named Identifier → Named Identifier × List (Named Identifier) → Tree Identifier × Trees Identifier → Result (RecordShape Identifier) (Fault Identifier)
behind_constructor n c x = name_of x.0 >> λ pred. fields_of x.1 >> behind_fields n c pred

abbrev behind_name : Named Identifier → Tree Identifier × Trees Identifier → Result (RecordShape Identifier) (Fault Identifier)
behind_name n q = constructor_of q.0 >> λ c. first_of q.1 >> behind_constructor n c

abbrev behind_type : Tree Identifier × Trees Identifier → Result (RecordShape Identifier) (Fault Identifier)
behind_type p = name_of p.0 >> λ n. first_of p.1 >> behind_name n

first_more : (n a b w : ℕ) → a + b ≤ n → 1 ≤ a → w ≤ b → 1 + w ≤ n
first_more n a b w first one rest = omega (arith, first, one, rest)

one_more : (n a b w k : ℕ) → a + b ≤ n → 1 ≤ a → k + w ≤ b → (k + 1) + w ≤ n
one_more n a b w k first one rest = omega (arith, first, one, rest)

fields_within : (n : Named Identifier) (c : Named Identifier × List (Named Identifier)) (pred : Named Identifier) (ts : Trees Identifier) (r : RecordShape Identifier) → (fields_of ts >> behind_fields n c pred) ≡ Ok r → fields_weight r.fields ≤ trees_size ts
fields_within n c pred ts r h =
    let a = made (fields_of ts) (behind_fields n c pred) r h in
    let b = made (distinct same_ident (map (λ f. f.field) a.first)) (λ done. kept_or (all_among same_ident c.1 (map (λ f. f.field) a.first)) (record { type = n; constructor = c.0; used = c.1; predicate = pred; fields = a.first })) r a.then in
    let same = kept_fields (all_among same_ident c.1 (map (λ f. f.field) a.first)) (record { type = n; constructor = c.0; used = c.1; predicate = pred; fields = a.first }) r b.then in
    subst (λ (fs : List (FieldShape Identifier)). fields_weight fs ≤ trees_size ts) same (fields_size ts a.first a.read)

predicate_within : (n : Named Identifier) (c : Named Identifier × List (Named Identifier)) (ts : Trees Identifier) (r : RecordShape Identifier) → (first_of ts >> behind_constructor n c) ≡ Ok r → 1 + fields_weight r.fields ≤ trees_size ts
predicate_within n c ts r h =
    let a = made (first_of ts) (behind_constructor n c) r h in
    let b = made (name_of a.first.0) (λ pred. fields_of a.first.1 >> behind_fields n c pred) r a.then in
    first_more (trees_size ts) (tree_size a.first.0) (trees_size a.first.1) (fields_weight r.fields) (first_size ts a.first a.read) (some_node a.first.0) (fields_within n c b.first a.first.1 r b.then)

constructor_within : (n : Named Identifier) (ts : Trees Identifier) (r : RecordShape Identifier) → (first_of ts >> behind_name n) ≡ Ok r → 2 + fields_weight r.fields ≤ trees_size ts
constructor_within n ts r h =
    let a = made (first_of ts) (behind_name n) r h in
    let b = made (constructor_of a.first.0) (λ c. first_of a.first.1 >> behind_constructor n c) r a.then in
    one_more (trees_size ts) (tree_size a.first.0) (trees_size a.first.1) (fields_weight r.fields) 1 (first_size ts a.first a.read) (some_node a.first.0) (predicate_within n b.first a.first.1 r b.then)

type_within : (ts : Trees Identifier) (r : RecordShape Identifier) → (first_of ts >> behind_type) ≡ Ok r → 3 + fields_weight r.fields ≤ trees_size ts
type_within ts r h =
    let a = made (first_of ts) behind_type r h in
    let b = made (name_of a.first.0) (λ n. first_of a.first.1 >> behind_name n) r a.then in
    one_more (trees_size ts) (tree_size a.first.0) (trees_size a.first.1) (fields_weight r.fields) 2 (first_size ts a.first a.read) (some_node a.first.0) (constructor_within b.first a.first.1 r b.then)

record_in_size : (ts : Trees Identifier) (tail : Tail Identifier) (r : RecordShape Identifier) → record_in same_ident ts tail ≡ Ok r → 3 + fields_weight r.fields ≤ trees_size ts
record_in_size ts tail r h =
    let a = made (proper_of ts tail) (λ us. first_of us >> behind_type) r h in
    subst (λ (us : Trees Identifier). 3 + fields_weight r.fields ≤ trees_size us) (proper_is ts a.first tail a.read) (type_within a.first r a.then)

record_size : (ts : Trees Identifier) (tail : Tail Identifier) (r : RecordShape Identifier) → record_of same_ident ts tail ≡ Ok r → length r.fields + length (record_names r) ≤ trees_size ts
record_size ts tail r h =
    let s = record_in_size ts tail r (by (record_in same_ident ts tail) h) in
    let w = names_weight r.fields in
    let m = length-map r.fields (λ (f : FieldShape Identifier). f.accessor) in
    let a = length-append (map (λ (f : FieldShape Identifier). f.accessor) r.fields) (modifiers r.fields) in
    omega (arith, s, w, m, a)
  where
    by : (x : Result (RecordShape Identifier) (Fault Identifier)) → or_bad_record x ≡ Ok r → x ≡ Ok r
    by (Ok y) e = e
    by (Err y) e = absurd cc

-- ---- shapes

values_size : (ts : Trees Identifier) (tail : Tail Identifier) (d : Formals Identifier × Tree Identifier) → values_of same_ident ts tail ≡ Ok d → length d.0.names ≤ trees_size ts
values_size ts tail d h =
    let a = made (first_of ts) (λ p. formals_of p.0 >> λ f. one_of p.1 tail >> λ t. distinct same_ident f.names >> λ done. Ok (f, t)) d h in
    let f = made (formals_of a.first.0) (λ f. one_of a.first.1 tail >> λ t. distinct same_ident f.names >> λ done. Ok (f, t)) d a.then in
    let t = made (one_of a.first.1 tail) (λ t. distinct same_ident f.first.names >> λ done. Ok (f.first, t)) d f.then in
    let x = made (distinct same_ident f.first.names) (λ done. Ok (f.first, t.first)) d t.then in
    let at = x.then in
    let pair : Formals Identifier × Tree Identifier = (f.first, t.first) in
    let e : pair ≡ d = cc in
    let count = formals_count a.first.0 f.first f.read in
    let first = first_size ts a.first a.read in
    subst (λ (y : Formals Identifier × Tree Identifier). length y.0.names ≤ trees_size ts) e (omega (arith, count, first))

-- what is read by `make` of a reading weighs no more
weighs : {B : Type 0} (r : Result B (Fault Identifier)) (make : B → Shape) (m : Shape) (most : ℕ) → ((b : B) → r ≡ Ok b → shape_weight (make b) ≤ most) → (r >> λ b. Ok (make b)) ≡ Ok m → shape_weight m ≤ most
weighs {B} r make m most fit h =
    let a = made r (λ (b : B). Ok (make b)) m h in
    let at = a.then in
    let e : make a.first ≡ m = cc in
    subst (λ (x : Shape). shape_weight x ≤ most) e (fit a.first a.read)

weight_within : (c : CoreKeyword) (mark : Identifier → Option Mark) (ts : Trees Identifier) (tail : Tail Identifier) (m : Shape) → takes_effect c ≡ true → shape_of c false mark ts tail ≡ Ok m → shape_weight m ≤ 1 + trees_size ts
weight_within IsQuote mark ts tail m e h = absurd cc
weight_within IsQuasiquote mark ts tail m e h = absurd cc
weight_within IsLambda mark ts tail m e h = absurd cc
weight_within IsCaseLambda mark ts tail m e h = absurd cc
weight_within IsIf mark ts tail m e h = absurd cc
weight_within IsSet mark ts tail m e h = absurd cc
weight_within IsBegin mark ts tail m e h = weighs (proper_of ts tail) Sequence m (1 + trees_size ts) (λ us is. let same : trees_size us ≡ trees_size ts = ap trees_size (proper_is ts us tail is) in omega (arith, same)) h
weight_within IsDefine mark ts tail m e h = weighs (definition_of same_ident ts tail) Definition m (1 + trees_size ts) (λ d is. omega arith) h
weight_within IsDefineValues mark ts tail m e h = weighs (values_of same_ident ts tail) Several m (1 + trees_size ts) (λ d is. let few = values_size ts tail d is in omega (arith, few)) h
weight_within IsDefineRecordType mark ts tail m e h = weighs (record_of same_ident ts tail) RecordType m (1 + trees_size ts) (λ r is. let few = record_size ts tail r is in omega (arith, few)) h
weight_within IsDefineSyntax mark ts tail m e h = weighs (syntax_of ts tail) Syntax m (1 + trees_size ts) (λ p is. omega arith) h
weight_within IsLetSyntax mark ts tail m e h = absurd cc
weight_within IsLetrecSyntax mark ts tail m e h = absurd cc
weight_within IsCondExpand mark ts tail m e h =
    weighs (some_of ts tail >> choices_in) Choices m (1 + trees_size ts)
    (λ cs is.
    let a = made (some_of ts tail) choices_in cs is in
    let same : trees_size a.first ≡ trees_size ts = ap trees_size (some_is ts a.first tail a.read) in
    let few = choices_fit a.first cs a.then in
    omega (arith, same, few)) h
weight_within IsSyntaxError mark ts tail m e h = absurd cc
weight_within IsInclude mark ts tail m e h = absurd cc

-- so it weighs less than its form
pub weight_less : (c : CoreKeyword) (mark : Identifier → Option Mark) (head : Tree Identifier) (ts : Trees Identifier) (tail : Tail Identifier) (m : Shape) → takes_effect c ≡ true → shape_of c false mark ts tail ≡ Ok m →
    shape_weight m < 1 + (tree_size head + trees_size ts + tail_size tail)
weight_less c mark head ts tail m e h = let few = weight_within c mark ts tail m e h in let one = some_node head in omega (arith, few, one)

-- ---- a shape of a form that takes effect is passed

passes : {B : Type 0} (r : Result B (Fault Identifier)) (make : B → Shape) (m : Shape) → ((b : B) → IsPassed (make b)) → (r >> λ b. Ok (make b)) ≡ Ok m → IsPassed m
passes {B} r make m is h =
    let a = made r (λ (b : B). Ok (make b)) m h in
    let at = a.then in
    let e : make a.first ≡ m = cc in
    subst IsPassed e (is a.first)

pub shape_passes : (c : CoreKeyword) (mark : Identifier → Option Mark) (ts : Trees Identifier) (tail : Tail Identifier) (m : Shape) → takes_effect c ≡ true → shape_of c false mark ts tail ≡ Ok m → IsPassed m
shape_passes IsQuote mark ts tail m e h = absurd cc
shape_passes IsQuasiquote mark ts tail m e h = absurd cc
shape_passes IsLambda mark ts tail m e h = absurd cc
shape_passes IsCaseLambda mark ts tail m e h = absurd cc
shape_passes IsIf mark ts tail m e h = absurd cc
shape_passes IsSet mark ts tail m e h = absurd cc
shape_passes IsBegin mark ts tail m e h = passes (proper_of ts tail) Sequence m (λ b. tt) h
shape_passes IsDefine mark ts tail m e h = passes (definition_of same_ident ts tail) Definition m (λ b. tt) h
shape_passes IsDefineValues mark ts tail m e h = passes (values_of same_ident ts tail) Several m (λ b. tt) h
shape_passes IsDefineRecordType mark ts tail m e h = passes (record_of same_ident ts tail) RecordType m (λ b. tt) h
shape_passes IsDefineSyntax mark ts tail m e h = passes (syntax_of ts tail) Syntax m (λ b. tt) h
shape_passes IsLetSyntax mark ts tail m e h = absurd cc
shape_passes IsLetrecSyntax mark ts tail m e h = absurd cc
shape_passes IsCondExpand mark ts tail m e h = passes (some_of ts tail >> choices_in) Choices m (λ b. tt) h
shape_passes IsSyntaxError mark ts tail m e h = absurd cc
shape_passes IsInclude mark ts tail m e h = absurd cc
