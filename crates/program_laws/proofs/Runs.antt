-- The forms of a body or a unit are gone through within the turns: each takes one, and each macro use gives so many nodes at most.
use Rattle.std.proofs.Common.{◌≡◌, ℕ, zero, suc, ◌+◌, ◌*◌, ◌≤◌, ◌<◌, List, [], ◌∷◌, ◌++◌, map, Bool, true, false, Option, Some, None, Result, Ok, Err, refl, ◌∙◌, subst, arith, if◌then◌else◌}
use Rattle.scheme_model.specs.Keywords.{CoreKeyword, IsQuote, IsQuasiquote, IsLambda, IsCaseLambda, IsIf, IsSet, IsBegin, IsDefine, IsDefineValues, IsDefineRecordType, IsDefineSyntax, IsLetSyntax, IsLetrecSyntax, IsCondExpand, IsSyntaxError, IsInclude}
use Rattle.scheme_model.specs.Trees.{Tree, name, atom, list, vector, Trees, no_trees, tree, Tail, map_tree}
use Rattle.scheme_model.specs.Measures.{tree_size, trees_size}
use Rattle.scheme_model.specs.ExpansionFaults.{Named, named_map, Fault, BadForm}
use Rattle.scheme_model.specs.Meaning.{Head, IsCore, IsAuxiliary, IsMacro, IsNone, is_keyword}
use Rattle.scheme_model.specs.Shapes.{Clause, Formals, DefinitionShape, Variable, Procedure, RecordShape, definition_of, values_of, record_of, syntax_of, proper_of}
use Rattle.scheme_model.specs.Requirements.{chosen_of}
use Rattle.scheme_model.specs.RulesShape.{Rules, rules_of}
use Rattle.scheme_model.specs.Building.{max_nodes}
use Rattle.scheme_model.specs.Cores.{Target, LocalNumber, Binder}
use Rattle.scheme_model.specs.Steps.{Broken, Step, ◌>>=◌, done, fails}
use Rattle.scheme_model.specs.Order.{Here, Item, Expression, Value, Function, Assigned, AssignedFunction, ValuesOf, Record, Macro, Note, LookedUp, Form, Pending, Pass, Transformer, Ops, RulesParts, Going, told, given, counting, binder_at, put, noted, first, define_all, define_names, fields_bound, record_names, record_part, caught, run_variable, run_function, run_define, run_values, run_record, is_rules, rules_parts_of, rules_parts, rules_at, rules_note, run_syntax, splice, or_none, read_then, run_core, use_of, comparisons, run_use, run_head, run_form, run_next, run, head_of, target_of, here_at, forms_at, Renamed, Left, Instance, waiting}
use Rattle.program_laws.proofs.Faults.{Gives, Any}
use Rattle.program_laws.proofs.Shapes.{proper_within, DefinitionWithin, definition_within, ValuesWithin, values_within, record_any, NamedWithin, syntax_within, ChosenWithin, chosen_within, TreesWithin}
use Rattle.program_laws.proofs.Rules.{rules_any}
use Rattle.program_laws.proofs.Steps.{size_same, total, FormsWithin, ItemWithin, ItemsWithin, PendingWithin, items_after, AsLarge, Keeps, Ended, Has, Ends, has_same, then_ends, given_ends, told_ends, counting_ends, Used, use_ends}

-- ---- what is pending

put_within : {A L : Type 0} (n : ℕ) (i : Item A) (p : Pending A L) → PendingWithin n p → ItemWithin n i → PendingWithin n (put i p)
put_within n i p h k = record { todo = h.todo; aside = items_after n p.aside i h.aside k }

noted_within : {A L : Type 0} (n : ℕ) (ns : List (Note L)) (p : Pending A L) → PendingWithin n p → PendingWithin n (noted ns p)
noted_within n ns p h = record { todo = h.todo; aside = h.aside }

both_total : {A : Type 0} (fs gs : List (Form A)) → total (fs ++ gs) ≡ total fs + total gs
both_total [] gs = omega arith
both_total (f ∷ fs) gs = let e = both_total fs gs in omega (arith, e)

both_within : {A : Type 0} (n : ℕ) (fs gs : List (Form A)) → FormsWithin n fs → FormsWithin n gs → FormsWithin n (fs ++ gs)
both_within n [] gs h k = k
both_within n (f ∷ fs) gs h k = (h.0, both_within n fs gs h.1 k)

pub forms_total : {A : Type 0} (here : Here) (ts : Trees A) → total (forms_at here ts) ≡ trees_size ts
forms_total here no_trees = refl
forms_total here (tree t ts) = let e = forms_total here ts in omega (arith, e)

pub forms_within : {A : Type 0} (n : ℕ) (here : Here) (ts : Trees A) → trees_size ts ≤ n → FormsWithin n (forms_at here ts)
forms_within n here no_trees le = tt
forms_within n here (tree t ts) le = (omega arith, forms_within n here ts (omega arith))

-- ---- rules

module _ {E A L S : Type 0} (loud : Ops E A L S) (keeps : Keeps loud) where
  -- nothing is asked
  abbrev quiet : Ops E A L S
  quiet = record loud { ask = λ qs s. s }

  ruled_by : (m : ℕ) (here : Here) (r : RulesParts A) (s : S) (b : Bool) → Has loud keeps m s → Ends loud keeps {V = RulesParts A} m Any (if b then done r s else fails here BadForm s)
  ruled_by m here r s true h = (h, tt)
  ruled_by m here r s false h = (h, tt)

  pub parts_end : (m : ℕ) (here : Here) (e : E) (o : Option (RulesParts A)) (s : S) → Has loud keeps m s → Ends loud keeps m Any (rules_parts quiet here e o s)
  parts_end m here e None s h = (h, tt)
  parts_end m here e (Some r) s h = ruled_by m here r s (is_rules (head_of quiet e s r.head)) h

  pub rules_end : (m : ℕ) (here : Here) (t : Tree A) (r : RulesParts A) (s : S) → Has loud keeps m s → Ends loud keeps m Any (rules_at quiet here t r s)
  rules_end m here t r s h =
      then_ends loud keeps m Any Any (counting quiet here (tree_size t) s) (λ u. given quiet.plain here (rules_of quiet.names r.parts r.tail)) (counting_ends loud keeps m here (tree_size t) s h)
      (λ u t1 k x. given_ends loud keeps m Any here (rules_of quiet.names r.parts r.tail) t1 k (rules_any quiet.names r.parts r.tail))

-- trees have at most so many nodes, as instances have
module _ {E A L S : Type 0} (loud : Ops E A L S) (keeps : Keeps loud) (n : ℕ) (large : max_nodes ≤ n) (e : E) where
  -- nothing is asked
  abbrev ops : Ops E A L S
  ops = record loud { ask = λ qs s. s }

  abbrev LeftWithin : Left A → Type 0
  LeftWithin l = ItemsWithin n l.items

  -- the forms that are left came to their items, or to a fault within the turns
  abbrev pub PassEnds : ℕ → Pass A L × S → Type 0
  PassEnds m q = Has loud keeps m q.1 × Ended LeftWithin q.0.left

  -- so many turns suffice for what is pending
  abbrev Fit : ℕ → ℕ → Pending A L → Type 0
  Fit turns m p = total p.todo + m * max_nodes < turns

  abbrev GoesOn : ℕ → Going A L S → Type 0
  GoesOn turns go = (m : ℕ) (p : Pending A L) (s : S) → Has loud keeps m s → Fit turns m p → PendingWithin n p → PassEnds m (go p s)

  caught_ends : {B : Type 0} (m : ℕ) (P : B → Type 0) (ns : List (Note L)) (q : Result B Broken × S) (go : B → S → Pass A L × S) → Ends loud keeps m P q → ((b : B) (t : S) → Has loud keeps m t → P b → PassEnds m (go b t)) → PassEnds m (caught ns q go)
  caught_ends m P ns (Ok b, t) go h g = g b t h.0 h.1
  caught_ends m P ns (Err x, t) go h g = h

  -- ---- names

  define_ends : (m : ℕ) (here : Here) (i : Named A) (r : Option (Rules A)) (p : Pending A L) (s : S) → Has loud keeps m s → Ends loud keeps m (AsLarge p) (told here (ops.define i r e p s))
  define_ends m here i r p s h = told_ends loud keeps m (AsLarge p) here (ops.define i r e p s) (has_same loud keeps m s ((ops.define i r e p s).1) (keeps.define i r e p s) h) (keeps.defined i r e p s)

  abbrev AllAsLarge : Pending A L → List Binder × Renamed A L → Type 0
  AllAsLarge p q = AsLarge p q.1

  as_large_then : (p : Pending A L) (d d' : Renamed A L) → AsLarge p d → AsLarge d.pending d' → AsLarge p d'
  as_large_then p d d' h k = record { todo = k.todo ∙ h.todo; within = λ n x. k.within n (h.within n x) }

  define_all_ends : (m : ℕ) (here : Here) (f : A → A) (is : List (Named A)) (p : Pending A L) (s : S) → Has loud keeps m s → Ends loud keeps m (AllAsLarge p) (define_all ops here e f is p s)
  define_all_ends m here f [] p s h = (h, record { todo = refl; within = λ n x. x })
  define_all_ends m here f (i ∷ is) p s h =
      let x = named_map f i in
      let more : Renamed A L → Step S (List Binder × Renamed A L) = λ d. define_all ops here e (λ j. d.rename (f j)) is d.pending in
      then_ends loud keeps m (AsLarge p) (AllAsLarge p) (told here (ops.define x None e p s)) (λ d t. more d t >>= λ q. done (binder_at ops e s x ∷ q.0, q.1)) (define_ends m here x None p s h)
      (λ d t k same. then_ends loud keeps m (AllAsLarge d.pending) (AllAsLarge p) (more d t) (λ q. done (binder_at ops e s x ∷ q.0, q.1)) (define_all_ends m here (λ j. d.rename (f j)) is d.pending t k) (λ q u l y. (l, as_large_then p d q.1 same y)))

  fields_ends : (m : ℕ) (is : List (Named A)) (s : S) → Has loud keeps m s → Ends loud keeps m Any (fields_bound ops is s)
  fields_ends m [] s h = (h, tt)
  fields_ends m (i ∷ is) s h =
      then_ends loud keeps m Any Any (fields_bound ops is (ops.take_local s)) (λ bs. done (record { bound = LocalNumber (ops.next_local s); ident = ops.plain i.name; occ = i.occ } ∷ bs))
      (fields_ends m is (ops.take_local s) (has_same loud keeps m s (ops.take_local s) (keeps.take_local s) h)) (λ bs t k x. (k, tt))

  -- ---- forms

  module _ (turns : ℕ) (go : Going A L S) (on : GoesOn turns go) where
    abbrev Pends : ℕ → Pending A L → S → Type 0
    Pends m p s = Has loud keeps m s × Fit turns m p × PendingWithin n p

    expression_ends : (m : ℕ) (form : Form A) (p : Pending A L) (s : S) → tree_size form.tree ≤ n → Pends m p s → PassEnds m (go (put (Expression form) p) s)
    expression_ends m form p s le h = on m (put (Expression form) p) s h.0 h.1 (put_within n (Expression form) p h.2 le)

    as_large_on : (m : ℕ) (p : Pending A L) (d : Renamed A L) (t : S) → AsLarge p d → Has loud keeps m t → Fit turns m p → PendingWithin n p → PassEnds m (go d.pending t)
    as_large_on m p d t same h k l = on m d.pending t h (let e = same.todo in omega (arith, e, k)) (same.within n l)

    defined_ends : (m : ℕ) (here : Here) (x : Named A) (i : Item A) (p : Pending A L) (s : S) → ItemWithin n i → Pends m p s → PassEnds m (caught p.notes (told here (ops.define x None e (put i p) s)) (λ d. go d.pending))
    defined_ends m here x i p s one h =
        caught_ends m (AsLarge (put i p)) p.notes (told here (ops.define x None e (put i p) s)) (λ d. go d.pending) (define_ends m here x None (put i p) s h.0)
        (λ d t k same. as_large_on m (put i p) d t same k h.1 (put_within n i p h.2 one))

    variable_ends : (m : ℕ) (here : Here) (x : Named A) (t : Tree A) (again : Bool) (p : Pending A L) (s : S) → tree_size t ≤ n → Pends m p s → PassEnds m (run_variable ops go here e x t again p s)
    variable_ends m here x t true p s le h = on m (put (Assigned x (record { here = here; tree = t })) p) s h.0 h.1 (put_within n (Assigned x (record { here = here; tree = t })) p h.2 le)
    variable_ends m here x t false p s le h = defined_ends m here x (Value (binder_at ops e s x) (record { here = here; tree = t })) p s le h

    function_ends : (m : ℕ) (here : Here) (x : Named A) (c : Clause A) (again : Bool) (p : Pending A L) (s : S) → trees_size c.body ≤ n → Pends m p s → PassEnds m (run_function ops go here e x c again p s)
    function_ends m here x c true p s le h = on m (put (AssignedFunction x here c) p) s h.0 h.1 (put_within n (AssignedFunction x here c) p h.2 le)
    function_ends m here x c false p s le h = defined_ends m here x (Function (binder_at ops e s x) here c) p s le h

    definition_ends : (m : ℕ) (here : Here) (k : ℕ) (p : Pending A L) (d : DefinitionShape A) (s : S) → k ≤ n → DefinitionWithin k d → Pends m p s → PassEnds m (run_define ops go here e p d s)
    definition_ends m here k p (Variable x t) s le d h = variable_ends m here x t (ops.is_assigned e s x.name) p s (omega (arith, le, d)) h
    definition_ends m here k p (Procedure x c) s le d h = function_ends m here x c (ops.is_assigned e s x.name) p s (omega (arith, le, d)) h

    abbrev values_put : Here → Formals A × Tree A → List Binder × Renamed A L → Pending A L
    values_put here d r = put (ValuesOf (record { names = r.0; rest = d.0.rest }) (record { here = here; tree = map_tree r.1.rename d.1 })) r.1.pending

    values_ends : (m : ℕ) (here : Here) (p : Pending A L) (d : Formals A × Tree A) (s : S) → tree_size d.1 ≤ n → Pends m p s → PassEnds m (run_values ops go here e p d s)
    values_ends m here p d s le h =
        caught_ends m (AllAsLarge p) p.notes (define_names ops here e d.0.names p s) (λ r. go (values_put here d r)) (define_all_ends m here (λ i. i) d.0.names p s h.0)
        (λ r t k same. let x = size_same r.1.rename d.1 in let y = same.todo in
        on m (values_put here d r) t k (omega (arith, y, h.1)) (put_within n (ValuesOf (record { names = r.0; rest = d.0.rest }) (record { here = here; tree = map_tree r.1.rename d.1 })) r.1.pending (same.within n h.2) (omega (arith, x, le))))

    abbrev Recorded : Pending A L → List Binder × (List Binder × Renamed A L) → Type 0
    Recorded p q = AsLarge p q.1.1

    record_ends : (m : ℕ) (here : Here) (p : Pending A L) (r : RecordShape A) (s : S) → Pends m p s → PassEnds m (run_record ops go here e p r s)
    record_ends m here p r s h =
        caught_ends m (Recorded p) p.notes (fields_bound ops (map (λ f. f.field) r.fields) s >>= λ bs t. define_names ops here e (record_names r) p t >>= λ q. done (bs, q))
        (λ q. go (put (Record (record_part ops.names.same r q.1.0 q.0)) q.1.1.pending))
        (then_ends loud keeps m Any (Recorded p) (fields_bound ops (map (λ f. f.field) r.fields) s) (λ bs t. define_names ops here e (record_names r) p t >>= λ q. done (bs, q)) (fields_ends m (map (λ f. f.field) r.fields) s h.0)
        (λ bs t k x. then_ends loud keeps m (AllAsLarge p) (Recorded p) (define_names ops here e (record_names r) p t) (λ q. done (bs, q)) (define_all_ends m here (λ i. i) (record_names r) p t k) (λ q u l y. (l, y))))
        (λ q t k same. let y = same.todo in on m (put (Record (record_part ops.names.same r q.1.0 q.0)) q.1.1.pending) t k (omega (arith, y, h.1)) (put_within n (Record (record_part ops.names.same r q.1.0 q.0)) q.1.1.pending (same.within n h.2) tt))

    -- ---- macros

    splice_ends : (m k : ℕ) (here : Here) (p : Pending A L) (ts : Trees A) (s : S) → k ≤ n → trees_size ts ≤ k → Has loud keeps m s → k + total p.todo + m * max_nodes < turns → PendingWithin n p → PassEnds m (splice ops go here p ts s)
    splice_ends m k here p ts s le small h fit l =
        caught_ends m Any p.notes (counting ops here 1 s) (λ u. go (first (forms_at here ts) p)) (counting_ends loud keeps m here 1 s h)
        (λ u t x y. let a = both_total (forms_at here ts) p.todo in let b = forms_total here ts in
        on m (first (forms_at here ts) p) t x (omega (arith, a, b, fit, small)) (record { todo = both_within n (forms_at here ts) p.todo (forms_within n here ts (omega (arith, le, small))) l.todo; aside = l.aside }))

    read_ends : {B : Type 0} (m : ℕ) (P : B → Type 0) (here : Here) (p : Pending A L) (r : Result B (Fault A)) (f : B → S → Pass A L × S) (s : S) → Has loud keeps m s → Gives P r → ((b : B) (t : S) → Has loud keeps m t → P b → PassEnds m (f b t)) → PassEnds m (read_then ops here p r f s)
    read_ends m P here p r f s h k g = caught_ends m P p.notes (given ops.plain here r s) f (given_ends loud keeps m P here r s h k) g

    abbrev Ruled : Pending A L → Binder × Pending A L → Type 0
    Ruled q r = (total r.1.todo ≡ total q.todo) × PendingWithin n r.1

    syntax_ends : (m : ℕ) (here : Here) (p : Pending A L) (d : Named A × Tree A) (s : S) → Pends m p s → PassEnds m (run_syntax ops go here e p d s)
    syntax_ends m here p d s h =
        let q : Pending A L = noted (rules_note ops e s (rules_parts_of d.1)) p in
        let w : PendingWithin n q = noted_within n (rules_note ops e s (rules_parts_of d.1)) p h.2 in
        caught_ends m (Ruled q) q.notes
        (rules_parts ops here e (rules_parts_of d.1) s >>= λ r t0. rules_at ops here d.1 r t0 >>= λ rules t. told here (ops.define d.0 (Some rules) e q t) >>= λ made. done (binder_at ops e t d.0, made.pending))
        (λ r. go (put (Macro r.0 here) r.1))
        (then_ends loud keeps m Any (Ruled q) (rules_parts ops here e (rules_parts_of d.1) s) (λ r t0. rules_at ops here d.1 r t0 >>= λ rules t. told here (ops.define d.0 (Some rules) e q t) >>= λ made. done (binder_at ops e t d.0, made.pending))
        (parts_end loud keeps m here e (rules_parts_of d.1) s h.0)
        (λ r t0 k x. then_ends loud keeps m Any (Ruled q) (rules_at ops here d.1 r t0) (λ rules t. told here (ops.define d.0 (Some rules) e q t) >>= λ made. done (binder_at ops e t d.0, made.pending)) (rules_end loud keeps m here d.1 r t0 k)
        (λ rules t l y. then_ends loud keeps m (AsLarge q) (Ruled q) (told here (ops.define d.0 (Some rules) e q t)) (λ made. done (binder_at ops e t d.0, made.pending)) (define_ends m here d.0 (Some rules) q t l)
        (λ made u z same. (z, (same.todo, same.within n w))))))
        (λ r t k same. let y = same.0 in on m (put (Macro r.0 here) r.1) t k (omega (arith, y, h.1)) (put_within n (Macro r.0 here) r.1 same.1 tt))

    -- the form at the front: what stands behind its head is smaller, and there are turns for it and for what is left behind it
    record Front (m : ℕ) (form : Form A) (ts : Trees A) (p : Pending A L) (s : S) : Type 0 where
      pub smaller : suc (trees_size ts) ≤ tree_size form.tree
      pub small : tree_size form.tree ≤ n
      pub fit : tree_size form.tree + total p.todo + m * max_nodes ≤ turns
      pub has : Has loud keeps m s
      pub within : PendingWithin n p

    pends_behind : (m : ℕ) (form : Form A) (ts : Trees A) (p : Pending A L) (s t : S) → Front m form ts p s → Has loud keeps m t → Pends m p t
    pends_behind m form ts p s t f h = let a = f.smaller in let b = f.fit in (h, omega (arith, a, b), f.within)

    front_expression : (m : ℕ) (form : Form A) (ts : Trees A) (p : Pending A L) (s : S) → Front m form ts p s → PassEnds m (go (put (Expression form) p) s)
    front_expression m form ts p s f = expression_ends m form p s f.small (pends_behind m form ts p s s f f.has)

    chosen_ends : (m : ℕ) (here : Here) (form : Form A) (ts : Trees A) (p : Pending A L) (s t : S) (o : Option (Trees A)) → Front m form ts p s → Has loud keeps m t → ChosenWithin ops.names.strip ops.known (trees_size ts) o → PassEnds m (splice ops go here p (or_none o) t)
    chosen_ends m here form ts p s t None f h k = let a = f.smaller in let b = f.fit in let c = f.small in splice_ends m (trees_size ts) here p no_trees t (omega (arith, a, c)) (omega arith) h (omega (arith, a, b)) f.within
    chosen_ends m here form ts p s t (Some us) f h k = let a = f.smaller in let b = f.fit in let c = f.small in splice_ends m (trees_size ts) here p us t (omega (arith, a, c)) k h (omega (arith, a, b)) f.within

    core_ends : (m : ℕ) (here : Here) (c : CoreKeyword) (k : Target) (form : Form A) (ts : Trees A) (tail : Tail A) (p : Pending A L) (s : S) → Front m form ts p s → PassEnds m (run_core ops go here e c k form ts tail p s)
    core_ends m here IsQuote k form ts tail p s f = front_expression m form ts p s f
    core_ends m here IsQuasiquote k form ts tail p s f = front_expression m form ts p s f
    core_ends m here IsLambda k form ts tail p s f = front_expression m form ts p s f
    core_ends m here IsCaseLambda k form ts tail p s f = front_expression m form ts p s f
    core_ends m here IsIf k form ts tail p s f = front_expression m form ts p s f
    core_ends m here IsSet k form ts tail p s f = front_expression m form ts p s f
    core_ends m here IsBegin k form ts tail p s f =
        let a = f.smaller in let b = f.fit in let c = f.small in
        read_ends m (TreesWithin (trees_size ts)) here p (proper_of ts tail) (splice ops go here p) (ops.meet k s) (has_same loud keeps m s (ops.meet k s) (keeps.meet k s) f.has) (proper_within ts tail)
        (λ us t h x. splice_ends m (trees_size ts) here p us t (omega (arith, a, c)) x h (omega (arith, a, b)) f.within)
    core_ends m here IsDefine k form ts tail p s f =
        let a = f.smaller in let c = f.small in
        read_ends m (DefinitionWithin (trees_size ts)) here p (definition_of ops.names.same ts tail) (run_define ops go here e p) (ops.meet k s) (has_same loud keeps m s (ops.meet k s) (keeps.meet k s) f.has) (definition_within ops.names.same ts tail)
        (λ d t h x. definition_ends m here (trees_size ts) p d t (omega (arith, a, c)) x (pends_behind m form ts p s t f h))
    core_ends m here IsDefineValues k form ts tail p s f =
        let a = f.smaller in let c = f.small in
        read_ends m (ValuesWithin (trees_size ts)) here p (values_of ops.names.same ts tail) (run_values ops go here e p) (ops.meet k s) (has_same loud keeps m s (ops.meet k s) (keeps.meet k s) f.has) (values_within ops.names.same ts tail)
        (λ d t h x. values_ends m here p d t (omega (arith, a, c, x)) (pends_behind m form ts p s t f h))
    core_ends m here IsDefineRecordType k form ts tail p s f =
        read_ends m Any here p (record_of ops.names.same ts tail) (run_record ops go here e p) (ops.meet k s) (has_same loud keeps m s (ops.meet k s) (keeps.meet k s) f.has) (record_any ops.names.same ts tail)
        (λ r t h x. record_ends m here p r t (pends_behind m form ts p s t f h))
    core_ends m here IsDefineSyntax k form ts tail p s f =
        read_ends m (NamedWithin (trees_size ts)) here p (syntax_of ts tail) (run_syntax ops go here e p) (ops.meet k s) (has_same loud keeps m s (ops.meet k s) (keeps.meet k s) f.has) (syntax_within ts tail)
        (λ d t h x. syntax_ends m here p d t (pends_behind m form ts p s t f h))
    core_ends m here IsLetSyntax k form ts tail p s f = front_expression m form ts p s f
    core_ends m here IsLetrecSyntax k form ts tail p s f = front_expression m form ts p s f
    core_ends m here IsCondExpand k form ts tail p s f =
        read_ends m (ChosenWithin ops.names.strip ops.known (trees_size ts)) here p (chosen_of ops.names.strip ops.known ts tail) (λ c. splice ops go here p (or_none c)) (ops.meet k s) (has_same loud keeps m s (ops.meet k s) (keeps.meet k s) f.has) (chosen_within ops.names.strip ops.known ts tail)
        (λ o t h x. chosen_ends m here form ts p s t o f h x)
    core_ends m here IsSyntaxError k form ts tail p s f = front_expression m form ts p s f
    core_ends m here IsInclude k form ts tail p s f = front_expression m form ts p s f

    -- an instance is gone through with a use less
    used_ends : (m : ℕ) (here : Here) (q : Pending A L) (r : Result (Instance A) Broken × S) → Used loud keeps m r → total q.todo + m * max_nodes < turns → PendingWithin n q
        → PassEnds m (caught q.notes r (λ i. go (first (record { here = here; tree = i.tree } ∷ []) (waiting i.met q))))
    used_ends m here q (Ok i, t) b fit w =
        let a = b.one_less in let c = b.within in
        let k : Pending A L = first (record { here = here; tree = i.tree } ∷ []) (waiting i.met q) in
        let z = on b.left k t b.has (omega (arith, subst (λ (l : ℕ). total q.todo + l * max_nodes < turns) a fit, c)) (record { todo = (omega (arith, c, large), w.todo); aside = w.aside }) in
        let x = z.0 in (omega (arith, x, a), z.1)
    used_ends m here q (Err x, t) b fit w = b

    use_ended : (m : ℕ) (here : Here) (k : Target) (o : Option (Transformer E A)) (form : Form A) (ts : Trees A) (tail : Tail A) (p : Pending A L) (s : S) → Front m form ts p s → PassEnds m (run_use ops go here e k o form ts tail p s)
    use_ended m here k None form ts tail p s f = front_expression m form ts p s f
    use_ended m here k (Some x) form ts tail p s f =
        let ns : List (Note L) = comparisons ops e x ts tail s in
        let a = f.smaller in let b = f.fit in
        used_ends m here (noted ns p) (use_of ops here e k x ts tail s) (use_ends loud keeps m here e k x ts tail s f.has) (omega (arith, a, b)) (noted_within n ns p f.within)

    head_ends : (m : ℕ) (here : Here) (d : Head) (k : Target) (form : Form A) (ts : Trees A) (tail : Tail A) (p : Pending A L) (s : S) → Front m form ts p s → PassEnds m (run_head ops go here e d k form ts tail p s)
    head_ends m here (IsCore c) k form ts tail p s f = core_ends m here c k form ts tail p s f
    head_ends m here (IsAuxiliary a) k form ts tail p s f = front_expression m form ts p s f
    head_ends m here (IsMacro x) k form ts tail p s f = use_ended m here k (ops.transformer s x) form ts tail p s f
    head_ends m here IsNone k form ts tail p s f = front_expression m form ts p s f

    -- what a form may be: its tree, and turns for it
    form_ends : (m : ℕ) (here : Here) (form : Form A) (t : Tree A) (p : Pending A L) (s : S) → tree_size form.tree ≡ tree_size t → tree_size t ≤ n → tree_size t + total p.todo + m * max_nodes ≤ turns → Has loud keeps m s → PendingWithin n p → PassEnds m (run_form ops go e here form t p s)
    form_ends m here form (name i o) p s same small fit h w = expression_ends m form p s (omega (arith, same, small)) (h, omega (arith, fit), w)
    form_ends m here form (atom a o) p s same small fit h w = expression_ends m form p s (omega (arith, same, small)) (h, omega (arith, fit), w)
    form_ends m here form (vector ts o) p s same small fit h w = expression_ends m form p s (omega (arith, same, small)) (h, omega (arith, fit), w)
    form_ends m here form (list no_trees tail o) p s same small fit h w = expression_ends m form p s (omega (arith, same, small)) (h, omega (arith, fit), w)
    form_ends m here form (list (tree (name i q) ts) tail o) p s same small fit h w =
        let ns : List (Note L) = LookedUp (ops.place e i) true (is_keyword (head_of ops e s i)) ∷ [] in
        head_ends m here (head_of ops e s i) (target_of ops e s i q) form ts tail (noted ns p) s
        (record { smaller = omega (arith, same); small = omega (arith, same, small); fit = omega (arith, same, fit); has = h; within = noted_within n ns p w })
    form_ends m here form (list (tree (atom a q) ts) tail o) p s same small fit h w = expression_ends m form p s (omega (arith, same, small)) (h, omega (arith, fit), w)
    form_ends m here form (list (tree (list us end q) ts) tail o) p s same small fit h w = expression_ends m form p s (omega (arith, same, small)) (h, omega (arith, fit), w)
    form_ends m here form (list (tree (vector us q) ts) tail o) p s same small fit h w = expression_ends m form p s (omega (arith, same, small)) (h, omega (arith, fit), w)

    next_ends : (m : ℕ) (fs : List (Form A)) (p : Pending A L) (s : S) → Has loud keeps m s → total fs + m * max_nodes ≤ turns → FormsWithin n fs → ItemsWithin n p.aside → PassEnds m (run_next ops go e fs p s)
    next_ends m [] p s h fit w a = (h, a)
    next_ends m (f ∷ fs) p s h fit w a = form_ends m (here_at ops.plain f.tree f.here) f f.tree (record p { todo = fs }) s refl w.0 (omega (arith, fit)) h (record { todo = w.1; aside = a })

  nothing : (k : ℕ) → k < 0 → ⊥
  nothing k h = omega arith

  pub run_ends : (turns m : ℕ) (p : Pending A L) (s : S) → Has loud keeps m s → Fit turns m p → PendingWithin n p → PassEnds m (run ops turns e p s)
  run_ends zero m p s h fit w = (h, nothing (total p.todo + m * max_nodes) fit)
  run_ends (suc turns) m p s h fit w = next_ends turns (run ops turns e) (run_ends turns) m p.todo p s h (omega (arith, fit)) w.todo w.aside
