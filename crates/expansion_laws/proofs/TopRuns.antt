-- While forms are gone through, what is set aside binds locals in a body and definitions in a unit.
use Rattle.std.proofs.Common.{◌≡◌, ℕ, zero, suc, List, [], ◌∷◌, ◌++◌, map, Bool, true, false, Option, Some, None, Result, Ok, Err, refl, sym, ◌∙◌, subst}
use Rattle.scheme_model.specs.Ident.{Ident}
use Rattle.scheme_model.specs.Keywords.{CoreKeyword, IsQuote, IsQuasiquote, IsLambda, IsCaseLambda, IsIf, IsSet, IsBegin, IsDefine, IsDefineValues, IsDefineRecordType, IsDefineSyntax, IsLetSyntax, IsLetrecSyntax, IsCondExpand, IsSyntaxError, IsInclude}
use Rattle.scheme_model.specs.Trees.{Tree, name, atom, list, vector, Trees, no_trees, tree, Tail, map_tree}
use Rattle.scheme_model.specs.ExpansionFaults.{Named, named_map, Fault}
use Rattle.scheme_model.specs.Meaning.{Head, IsCore, IsAuxiliary, IsMacro, IsNone, is_keyword}
use Rattle.scheme_model.specs.Shapes.{Clause, Formals, DefinitionShape, Variable, Procedure, RecordShape, definition_of, values_of, record_of, syntax_of, proper_of}
use Rattle.scheme_model.specs.Requirements.{chosen_of}
use Rattle.scheme_model.specs.RulesShape.{Rules}
use Rattle.scheme_model.specs.Cores.{Target, LocalNumber, Binder}
use Rattle.scheme_model.specs.Steps.{Broken, Step, ◌>>=◌, done}
use Rattle.scheme_model.specs.Order.{Here, Item, Expression, Value, Function, Assigned, AssignedFunction, ValuesOf, Record, Macro, Note, LookedUp, Form, Pending, Pass, Transformer, Ops, RulesParts, Going, told, given, counting, binder_at, put, noted, first, define_all, define_names, fields_bound, record_names, record_part, caught, run_variable, run_function, run_define, run_values, run_record, rules_parts_of, rules_parts, rules_at, rules_note, run_syntax, splice, or_none, read_then, run_core, use_of, comparisons, run_use, run_head, run_form, run_next, run, head_of, target_of, here_at, forms_at, Renamed, Left, Instance, waiting}
use Rattle.core_tree.specs.Levels.{BindsAs, AllBind}
use Rattle.expansion_laws.specs.Tops.{OfOk, ItemBinds, ItemsBind}

-- ---- steps

pub then_on : {S B C : Type 0} (P : B → Type 0) (Q : C → Type 0) (r : Result B Broken × S) (f : B → Step S C) → OfOk P r.0 → ((b : B) (s : S) → P b → OfOk Q (f b s).0) → OfOk Q (r >>= f).0
then_on P Q (Ok b, s) f h g = g b s h
then_on P Q (Err e, s) f h g = tt

pub any_of : {B : Type 0} (r : Result B Broken) → OfOk (λ (b : B). Unit {0}) r
any_of (Ok b) = tt
any_of (Err e) = tt

pub caught_on : {A B L S : Type 0} (P : B → Type 0) (Q : Left A → Type 0) (ns : List (Note L)) (r : Result B Broken × S) (go : B → S → Pass A L × S) → OfOk P r.0 → ((b : B) (s : S) → P b → OfOk Q (go b s).0.left) → OfOk Q (caught ns r go).0.left
caught_on P Q ns (Ok b, s) go h g = g b s h
caught_on P Q ns (Err e, s) go h g = tt

told_on : {S B : Type 0} (P : B → Type 0) (here : Here) (q : Result B (Fault Ident) × S) → OfOk P q.0 → OfOk P (told here q).0
told_on P here (Ok b, s) h = h
told_on P here (Err e, s) h = tt

-- ---- what is set aside

put_on : {A : Type 0} (local : Bool) (is : List (Item A)) (i : Item A) → ItemsBind local is → ItemBinds local i → ItemsBind local (is ++ i ∷ [])
put_on local [] i h one = (one, tt)
put_on local (x ∷ is) i h one = (h.0, put_on local is i h.1 one)

module _ {E A L S : Type 0} (loud : Ops E A L S) (left : (n : Named A) (r : Option (Rules A)) (e : E) (p : Pending A L) (s : S) → OfOk (λ (d : Renamed A L). d.pending.aside ≡ p.aside) (loud.define n r e p s).0)
    (local : Bool) (e : E) (next : (s : S) → BindsAs local (loud.next_bound e s)) where
  -- nothing is asked
  abbrev ops : Ops E A L S
  ops = record loud { ask = λ qs s. s }

  abbrev Binds : Left A → Type 0
  Binds l = ItemsBind local l.items

  abbrev Sets : Result (Left A) Broken → Type 0
  Sets r = OfOk Binds r

  abbrev IsLeft : Pending A L → Renamed A L → Type 0
  IsLeft p d = d.pending.aside ≡ p.aside

  abbrev GoesOn : Going A L S → Type 0
  GoesOn go = (p : Pending A L) (s : S) → ItemsBind local p.aside → Sets (go p s).0.left

  on_left : (p q : Pending A L) → q.aside ≡ p.aside → ItemsBind local p.aside → ItemsBind local q.aside
  on_left p q same h = subst (λ (is : List (Item A)). ItemsBind local is) (sym same) h

  -- ---- names

  abbrev Defines : Pending A L → List Binder × Renamed A L → Type 0
  Defines p q = AllBind local q.0 × (q.1.pending.aside ≡ p.aside)

  define_all_on : (here : Here) (f : A → A) (ns : List (Named A)) (p : Pending A L) (s : S) → OfOk (Defines p) (define_all ops here e f ns p s).0
  define_all_on here f [] p s = (tt, refl)
  define_all_on here f (n ∷ ns) p s =
      let x = named_map f n in
      let more : Renamed A L → Step S (List Binder × Renamed A L) = λ d. define_all ops here e (λ i. d.rename (f i)) ns d.pending in
      then_on (IsLeft p) (Defines p) (told here (ops.define x None e p s)) (λ d t. more d t >>= λ q. done (binder_at ops e s x ∷ q.0, q.1)) (told_on (IsLeft p) here (ops.define x None e p s) (left x None e p s))
      (λ d t same. then_on (Defines d.pending) (Defines p) (more d t) (λ q. done (binder_at ops e s x ∷ q.0, q.1)) (define_all_on here (λ i. d.rename (f i)) ns d.pending t) (λ q u y. ((next s, y.0), y.1 ∙ same)))

  define_names_on : (here : Here) (ns : List (Named A)) (p : Pending A L) (s : S) → OfOk (Defines p) (define_names ops here e ns p s).0
  define_names_on here ns p s = define_all_on here (λ i. i) ns p s

  fields_on : (ns : List (Named A)) (s : S) → OfOk (AllBind true) (fields_bound ops ns s).0
  fields_on [] s = tt
  fields_on (n ∷ ns) s = then_on (AllBind true) (AllBind true) (fields_bound ops ns (ops.take_local s)) (λ bs. done (record { bound = LocalNumber (ops.next_local s); ident = ops.plain n.name; occ = n.occ } ∷ bs)) (fields_on ns (ops.take_local s)) (λ bs t x. (tt, x))

  -- ---- definitions

  module _ (go : Going A L S) (on : GoesOn go) where
    expression_on : (form : Form A) (p : Pending A L) (s : S) → ItemsBind local p.aside → Sets (go (put (Expression form) p) s).0.left
    expression_on form p s h = on (put (Expression form) p) s (put_on local p.aside (Expression form) h tt)

    defined_on : (here : Here) (n : Named A) (i : Item A) (p : Pending A L) (s : S) → ItemBinds local i → ItemsBind local p.aside → Sets (caught p.notes (told here (ops.define n None e (put i p) s)) (λ d. go d.pending)).0.left
    defined_on here n i p s one h =
        caught_on (IsLeft (put i p)) Binds p.notes (told here (ops.define n None e (put i p) s)) (λ d. go d.pending) (told_on (IsLeft (put i p)) here (ops.define n None e (put i p) s) (left n None e (put i p) s))
        (λ d t same. on d.pending t (on_left (put i p) d.pending same (put_on local p.aside i h one)))

    variable_on : (here : Here) (n : Named A) (t : Tree A) (again : Bool) (p : Pending A L) (s : S) → ItemsBind local p.aside → Sets (run_variable ops go here e n t again p s).0.left
    variable_on here n t true p s h = on (put (Assigned n (record { here = here; tree = t })) p) s (put_on local p.aside (Assigned n (record { here = here; tree = t })) h tt)
    variable_on here n t false p s h = defined_on here n (Value (binder_at ops e s n) (record { here = here; tree = t })) p s (next s) h

    function_on : (here : Here) (n : Named A) (c : Clause A) (again : Bool) (p : Pending A L) (s : S) → ItemsBind local p.aside → Sets (run_function ops go here e n c again p s).0.left
    function_on here n c true p s h = on (put (AssignedFunction n here c) p) s (put_on local p.aside (AssignedFunction n here c) h tt)
    function_on here n c false p s h = defined_on here n (Function (binder_at ops e s n) here c) p s (next s) h

    define_on : (here : Here) (p : Pending A L) → ItemsBind local p.aside → (d : DefinitionShape A) (s : S) → Sets (run_define ops go here e p d s).0.left
    define_on here p h (Variable n t) s = variable_on here n t (ops.is_assigned e s n.name) p s h
    define_on here p h (Procedure n c) s = function_on here n c (ops.is_assigned e s n.name) p s h

    abbrev values_put : Here → Formals A × Tree A → List Binder × Renamed A L → Pending A L
    values_put here d r = put (ValuesOf (record { names = r.0; rest = d.0.rest }) (record { here = here; tree = map_tree r.1.rename d.1 })) r.1.pending

    run_values_on : (here : Here) (p : Pending A L) → ItemsBind local p.aside → (d : Formals A × Tree A) (s : S) → Sets (run_values ops go here e p d s).0.left
    run_values_on here p h d s =
        caught_on (Defines p) Binds p.notes (define_names ops here e d.0.names p s) (λ r. go (values_put here d r)) (define_names_on here d.0.names p s)
        (λ r t x. on (values_put here d r) t (put_on local r.1.pending.aside (ValuesOf (record { names = r.0; rest = d.0.rest }) (record { here = here; tree = map_tree r.1.rename d.1 })) (on_left p r.1.pending x.1 h) x.0))

    abbrev Recorded : Pending A L → List Binder × (List Binder × Renamed A L) → Type 0
    Recorded p q = AllBind true q.0 × Defines p q.1

    run_record_on : (here : Here) (p : Pending A L) → ItemsBind local p.aside → (r : RecordShape A) (s : S) → Sets (run_record ops go here e p r s).0.left
    run_record_on here p h r s =
        caught_on (Recorded p) Binds p.notes (fields_bound ops (map (λ f. f.field) r.fields) s >>= λ bs t. define_names ops here e (record_names r) p t >>= λ q. done (bs, q))
        (λ q. go (put (Record (record_part ops.names.same r q.1.0 q.0)) q.1.1.pending))
        (then_on (AllBind true) (Recorded p) (fields_bound ops (map (λ f. f.field) r.fields) s) (λ bs t. define_names ops here e (record_names r) p t >>= λ q. done (bs, q)) (fields_on (map (λ f. f.field) r.fields) s)
        (λ bs t x. then_on (Defines p) (Recorded p) (define_names ops here e (record_names r) p t) (λ q. done (bs, q)) (define_names_on here (record_names r) p t) (λ q u y. (x, y))))
        (λ q t x. on (put (Record (record_part ops.names.same r q.1.0 q.0)) q.1.1.pending) t (put_on local q.1.1.pending.aside (Record (record_part ops.names.same r q.1.0 q.0)) (on_left p q.1.1.pending x.1.1 h) (x.1.0, x.0)))

    abbrev Ruled : Pending A L → Binder × Pending A L → Type 0
    Ruled p q = BindsAs local q.0.bound × (q.1.aside ≡ p.aside)

    run_syntax_on : (here : Here) (p : Pending A L) → ItemsBind local p.aside → (d : Named A × Tree A) (s : S) → Sets (run_syntax ops go here e p d s).0.left
    run_syntax_on here p h d s =
        let q : Pending A L = noted (rules_note ops e s (rules_parts_of d.1)) p in
        caught_on (Ruled q) Binds q.notes
        (rules_parts ops here e (rules_parts_of d.1) s >>= λ r t0. rules_at ops here d.1 r t0 >>= λ rules t. told here (ops.define d.0 (Some rules) e q t) >>= λ made. done (binder_at ops e t d.0, made.pending))
        (λ r. go (put (Macro r.0 here) r.1))
        (then_on (λ (r : RulesParts A). Unit {0}) (Ruled q) (rules_parts ops here e (rules_parts_of d.1) s) (λ r t0. rules_at ops here d.1 r t0 >>= λ rules t. told here (ops.define d.0 (Some rules) e q t) >>= λ made. done (binder_at ops e t d.0, made.pending))
        (any_of (rules_parts ops here e (rules_parts_of d.1) s).0)
        (λ r t0 x. then_on (λ (rules : Rules A). Unit {0}) (Ruled q) (rules_at ops here d.1 r t0) (λ rules t. told here (ops.define d.0 (Some rules) e q t) >>= λ made. done (binder_at ops e t d.0, made.pending)) (any_of (rules_at ops here d.1 r t0).0)
        (λ rules t y. then_on (IsLeft q) (Ruled q) (told here (ops.define d.0 (Some rules) e q t)) (λ made. done (binder_at ops e t d.0, made.pending)) (told_on (IsLeft q) here (ops.define d.0 (Some rules) e q t) (left d.0 (Some rules) e q t)) (λ made u same. (next t, same)))))
        (λ r t x. on (put (Macro r.0 here) r.1) t (put_on local r.1.aside (Macro r.0 here) (on_left q r.1 x.1 h) x.0))

    splice_on : (here : Here) (p : Pending A L) → ItemsBind local p.aside → (ts : Trees A) (s : S) → Sets (splice ops go here p ts s).0.left
    splice_on here p h ts s = caught_on (λ (u : Unit {0}). Unit {0}) Binds p.notes (counting ops here 1 s) (λ u. go (first (forms_at here ts) p)) (any_of (counting ops here 1 s).0) (λ u t x. on (first (forms_at here ts) p) t h)

    read_on : {B : Type 0} (here : Here) (p : Pending A L) (r : Result B (Fault A)) (f : B → S → Pass A L × S) → ((b : B) (s : S) → Sets (f b s).0.left) → (s : S) → Sets (read_then ops here p r f s).0.left
    read_on {B} here p r f h s = caught_on (λ (b : B). Unit {0}) Binds p.notes (given ops.plain here r s) f (any_of (given ops.plain here r s).0) (λ b t x. h b t)

    core_on : (here : Here) (c : CoreKeyword) (k : Target) (form : Form A) (ts : Trees A) (tail : Tail A) (p : Pending A L) (s : S) → ItemsBind local p.aside → Sets (run_core ops go here e c k form ts tail p s).0.left
    core_on here IsQuote k form ts tail p s h = expression_on form p s h
    core_on here IsQuasiquote k form ts tail p s h = expression_on form p s h
    core_on here IsLambda k form ts tail p s h = expression_on form p s h
    core_on here IsCaseLambda k form ts tail p s h = expression_on form p s h
    core_on here IsIf k form ts tail p s h = expression_on form p s h
    core_on here IsSet k form ts tail p s h = expression_on form p s h
    core_on here IsBegin k form ts tail p s h = read_on here p (proper_of ts tail) (splice ops go here p) (splice_on here p h) (ops.meet k s)
    core_on here IsDefine k form ts tail p s h = read_on here p (definition_of ops.names.same ts tail) (run_define ops go here e p) (define_on here p h) (ops.meet k s)
    core_on here IsDefineValues k form ts tail p s h = read_on here p (values_of ops.names.same ts tail) (run_values ops go here e p) (run_values_on here p h) (ops.meet k s)
    core_on here IsDefineRecordType k form ts tail p s h = read_on here p (record_of ops.names.same ts tail) (run_record ops go here e p) (run_record_on here p h) (ops.meet k s)
    core_on here IsDefineSyntax k form ts tail p s h = read_on here p (syntax_of ts tail) (run_syntax ops go here e p) (run_syntax_on here p h) (ops.meet k s)
    core_on here IsLetSyntax k form ts tail p s h = expression_on form p s h
    core_on here IsLetrecSyntax k form ts tail p s h = expression_on form p s h
    core_on here IsCondExpand k form ts tail p s h = read_on here p (chosen_of ops.names.strip ops.known ts tail) (λ c. splice ops go here p (or_none c)) (λ c t. splice_on here p h (or_none c) t) (ops.meet k s)
    core_on here IsSyntaxError k form ts tail p s h = expression_on form p s h
    core_on here IsInclude k form ts tail p s h = expression_on form p s h

    use_on : (here : Here) (k : Target) (o : Option (Transformer E A)) (form : Form A) (ts : Trees A) (tail : Tail A) (p : Pending A L) (s : S) → ItemsBind local p.aside → Sets (run_use ops go here e k o form ts tail p s).0.left
    use_on here k None form ts tail p s h = expression_on form p s h
    use_on here k (Some m) form ts tail p s h =
        let q : Pending A L = noted (comparisons ops e m ts tail s) p in
        let more : Instance A → Pending A L = λ i. first (record { here = here; tree = i.tree } ∷ []) (waiting i.met q) in
        caught_on (λ (i : Instance A). Unit {0}) Binds q.notes (use_of ops here e k m ts tail s) (λ i. go (more i)) (any_of (use_of ops here e k m ts tail s).0) (λ i u x. on (more i) u h)

    head_on : (here : Here) (d : Head) (k : Target) (form : Form A) (ts : Trees A) (tail : Tail A) (p : Pending A L) (s : S) → ItemsBind local p.aside → Sets (run_head ops go here e d k form ts tail p s).0.left
    head_on here (IsCore c) k form ts tail p s h = core_on here c k form ts tail p s h
    head_on here (IsAuxiliary a) k form ts tail p s h = expression_on form p s h
    head_on here (IsMacro m) k form ts tail p s h = use_on here k (ops.transformer s m) form ts tail p s h
    head_on here IsNone k form ts tail p s h = expression_on form p s h

    form_on : (here : Here) (form : Form A) (t : Tree A) (p : Pending A L) (s : S) → ItemsBind local p.aside → Sets (run_form ops go e here form t p s).0.left
    form_on here form (name i o) p s h = expression_on form p s h
    form_on here form (atom a o) p s h = expression_on form p s h
    form_on here form (vector ts o) p s h = expression_on form p s h
    form_on here form (list no_trees tail o) p s h = expression_on form p s h
    form_on here form (list (tree (name i q) ts) tail o) p s h = head_on here (head_of ops e s i) (target_of ops e s i q) form ts tail (noted (LookedUp (ops.place e i) true (is_keyword (head_of ops e s i)) ∷ []) p) s h
    form_on here form (list (tree (atom a q) ts) tail o) p s h = expression_on form p s h
    form_on here form (list (tree (list us end q) ts) tail o) p s h = expression_on form p s h
    form_on here form (list (tree (vector us q) ts) tail o) p s h = expression_on form p s h

    next_form_on : (fs : List (Form A)) (p : Pending A L) (s : S) → ItemsBind local p.aside → Sets (run_next ops go e fs p s).0.left
    next_form_on [] p s h = h
    next_form_on (f ∷ fs) p s h = form_on (here_at ops.plain f.tree f.here) f f.tree (record p { todo = fs }) s h

  pub run_on : (turns : ℕ) (p : Pending A L) (s : S) → ItemsBind local p.aside → Sets (run ops turns e p s).0.left
  run_on zero p s h = tt
  run_on (suc turns) p s h = next_form_on (run ops turns e) (run_on turns) p.todo p s h
