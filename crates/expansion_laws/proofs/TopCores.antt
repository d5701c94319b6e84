-- What is expanded binds locals alone, but for the parts of a unit, which bind its definitions.
use Rattle.std.proofs.Common.{◌≡◌, ℕ, zero, suc, ◌+◌, List, [], ◌∷◌, Bool, true, Option, Some, None, Result}
use Rattle.scheme_model.specs.Identifiers.{Number}
use Rattle.scheme_model.specs.Keywords.{CoreKeyword, IsQuote, IsQuasiquote, IsLambda, IsCaseLambda, IsIf, IsSet, IsBegin, IsDefine, IsDefineValues, IsDefineRecordType, IsDefineSyntax, IsLetSyntax, IsLetrecSyntax, IsCondExpand, IsSyntaxError, IsInclude}
use Rattle.scheme_model.specs.Trees.{Tree, name, atom, list, vector, Trees, no_trees, tree, Tail, proper, dotted, map_tree}
use Rattle.scheme_model.specs.Measures.{tree_size}
use Rattle.scheme_model.specs.ExpansionFaults.{Named, named, Fault, SyntaxError, ◌>>◌}
use Rattle.scheme_model.specs.Meaning.{Head, IsCore, IsAuxiliary, IsMacro, IsNone}
use Rattle.scheme_model.specs.Shapes.{Clause, LocalMacros, lambda_of, case_lambda_of, if_of, named_tree_of, syntax_of, some_of, one_of, error_text_of, definition_of, values_of, local_macros_of}
use Rattle.scheme_model.specs.Requirements.{chosen_of}
use Rattle.scheme_model.specs.Quasiquote.{quasi_of, Pieces}
use Rattle.scheme_model.specs.RulesShape.{Rules}
use Rattle.scheme_model.specs.Cores.{Target, LocalNumber, Binder, Binders, Core, Quote, Quasi, Lambda, CaseLambda, If, Set, Ref, Const, Call, Body, LetSyntax, core, clause, part, Expression as expression_part, Define as define_part, Values as values_part, outside}
use Rattle.scheme_model.specs.Steps.{Step, ◌>>=◌, done, fails}
use Rattle.scheme_model.specs.Order.{Here, Item, Expression, Value, Function, Assigned, AssignedFunction, ValuesOf, Record, Macro, Pending, Renamed, Region, RulesParts, Transformer, Ops, head_of, target_of, here_at, forms_at, counting, given, Left, Instance, use_of, meet_waiting, meet_all, run}
use Rattle.scheme_model.specs.Expression.{Task, whole, body, Expander, node, each, each_of, bound, procedure, lambda, clauses, macro_with, assignment, item_part, parts, left_of, body_in, body_core, expressions, sequence, heads, keep_all, numbers, local_defs, local_macros, recursive, let_syntax, letrec_syntax, mark_of, symbol_or_hole, quasi, quote, unless_keyword, set, reference, call, misplaced, chosen_sequence, core_form, macro_use, by_head, expression, expand}
use Rattle.core_tree.specs.Levels.{BindsAs, AllBind, AllMacrosBind, BindsLocals, AllBindLocals, ClausesBindLocals, PartsBind, PartBinds}
use Rattle.expansion_laws.specs.Tops.{OfOk, ItemBinds, ItemsBind}
use Rattle.expansion_laws.proofs.TopRuns.{then_on, any_of, run_on}

module _ {E A L S : Type 0} (loud : Ops E A L S) (left : (n : Named A) (r : Option (Rules A)) (e : E) (p : Pending A L) (s : S) → OfOk (λ (d : Renamed A L). d.pending.aside ≡ p.aside) (loud.define n r e p s).0)
    (inside : (e : E) (ts : Trees A) (s t : S) → BindsAs true (loud.next_bound (loud.enter e ts s).env t)) where
  -- nothing is asked
  abbrev ops : Ops E A L S
  ops = record loud { ask = λ qs s. s }

  node_on : {B : Type 0} (P : B → Type 0) (here : Here) (n depth : ℕ) (next : ℕ → Step S B) (s : S) → ((below : ℕ) (t : S) → OfOk P (next below t).0) → OfOk P (node ops here n depth next s).0
  node_on P here n zero next s h = tt
  node_on P here n (suc depth) next s h = then_on (λ (u : Unit {0}). Unit {0}) P (counting ops here n s) (λ u. next depth) (any_of (counting ops here n s).0) (λ u t x. h depth t)

  each_on : (g : Tree A → Step S Core) → ((t : Tree A) (s : S) → OfOk BindsLocals (g t s).0) → (ts : Trees A) (s : S) → OfOk AllBindLocals (each g ts s).0
  each_on g h no_trees s = tt
  each_on g h (tree t ts) s = then_on BindsLocals AllBindLocals (g t s) (λ c. λ t1. each g ts t1 >>= λ cs. done (core c cs)) (h t s) (λ c t1 x. then_on AllBindLocals AllBindLocals (each g ts t1) (λ cs. done (core c cs)) (each_on g h ts t1) (λ cs t2 y. (x, y)))

  each_of_on : (g : Tree A → Step S Core) → ((t : Tree A) (s : S) → OfOk BindsLocals (g t s).0) → (ts : List (Tree A)) (s : S) → OfOk AllBindLocals (each_of g ts s).0
  each_of_on g h [] s = tt
  each_of_on g h (t ∷ ts) s = then_on BindsLocals AllBindLocals (g t s) (λ c. λ t1. each_of g ts t1 >>= λ cs. done (core c cs)) (h t s) (λ c t1 x. then_on AllBindLocals AllBindLocals (each_of g ts t1) (λ cs. done (core c cs)) (each_of_on g h ts t1) (λ cs t2 y. (x, y)))

  expressions_on : (g : Tree A → Step S Core) → ((t : Tree A) (s : S) → OfOk BindsLocals (g t s).0) → (ts : Trees A) (s : S) → OfOk (PartsBind true) (expressions g ts s).0
  expressions_on g h no_trees s = tt
  expressions_on g h (tree t ts) s = then_on BindsLocals (PartsBind true) (g t s) (λ c. λ t1. expressions g ts t1 >>= λ ps. done (part (expression_part c) ps)) (h t s) (λ c t1 x. then_on (PartsBind true) (PartsBind true) (expressions g ts t1) (λ ps. done (part (expression_part c) ps)) (expressions_on g h ts t1) (λ ps t2 y. (x, y)))

  abbrev Binding : {B : Type 0} → (B → Type 0) → List Binder × B → Type 0
  Binding P q = AllBind true q.0 × P q.1

  bound_on : {B : Type 0} (P : B → Type 0) (g : E → Trees A → Step S B) → ((e : E) (ts : Trees A) (s : S) → OfOk P (g e ts s).0) → (ns : List (Named A)) (e : E) (ts : Trees A) (s : S) → OfOk (Binding P) (bound ops g ns e ts s).0
  bound_on {B} P g h [] e ts s = then_on P (Binding P) (g e ts s) (λ b. done ([], b)) (h e ts s) (λ b t x. (tt, x))
  bound_on {B} P g h (n ∷ ns) e ts s =
      let r = ops.bind n.name e ts s in
      then_on (Binding P) (Binding P) (bound ops g ns r.env r.trees r.state) (λ (q : List Binder × B). done (record { bound = LocalNumber (ops.next_local s); ident = ops.plain n.name; occ = n.occ } ∷ q.0, q.1)) (bound_on P g h ns r.env r.trees r.state) (λ q t x. ((tt, x.0), x.1))

  -- ---- macros

  macro_binder : (local : Bool) (s : S) (b : Binder) (o : Option (Transformer E A)) → BindsAs local b.bound → BindsAs local (macro_with ops s b o).binder.bound
  macro_binder local s b None h = h
  macro_binder local s b (Some m) h = h

  local_defs_on : (s : S) (vs : List Number) (ns : List (Named A)) → AllMacrosBind true (local_defs ops s vs ns)
  local_defs_on s [] ns = tt
  local_defs_on s (v ∷ vs) [] = tt
  local_defs_on s (v ∷ vs) (n ∷ ns) =
      let b : Binder = record { bound = LocalNumber v; ident = ops.plain n.name; occ = n.occ } in
      (macro_binder true s b (ops.transformer s _) tt, local_defs_on s vs ns)

  unless_on : (here : Here) (d : Head) (n : Named A) (go : Step S Core) (s : S) → OfOk BindsLocals (go s).0 → OfOk BindsLocals (unless_keyword ops here d n go s).0
  unless_on here (IsCore k) n go s h = tt
  unless_on here (IsAuxiliary a) n go s h = tt
  unless_on here (IsMacro m) n go s h = tt
  unless_on here IsNone n go s h = h

  given_on : {B C : Type 0} (P : C → Type 0) (here : Here) (r : Result B (Fault A)) (f : B → Step S C) (s : S) → ((b : B) (t : S) → OfOk P (f b t).0) → OfOk P (given ops.plain here r s >>= f).0
  given_on {B} P here r f s h = then_on (λ (b : B). Unit {0}) P (given ops.plain here r s) f (any_of (given ops.plain here r s).0) (λ b t x. h b t)

  quote_on : (depth : ℕ) (here : Here) (t : Tree A) (s : S) → OfOk BindsLocals (quote ops depth here t s).0
  quote_on depth here t s = node_on BindsLocals here (1 + tree_size t) depth (λ below. done (Quote (map_tree ops.names.strip t))) s (λ below u. tt)

  reference_on : (depth : ℕ) (here : Here) (e : E) (n : Named A) (s : S) → OfOk BindsLocals (reference ops depth here e n s).0
  reference_on depth here e n s =
      unless_on here (head_of ops e s n.name) n (node ops here 1 depth (λ below t. done (Ref (target_of ops e t n.name n.occ)) t)) s (node_on BindsLocals here 1 depth (λ below t. done (Ref (target_of ops e t n.name n.occ)) t) s (λ below t. tt))

  module _ (f : Expander E A S) (law : (depth : ℕ) (here : Here) (e : E) (task : Task A) (s : S) → OfOk BindsLocals (f depth here e task s).0) where
    abbrev Made : Binders × Core → Type 0
    Made q = AllBind true q.0.names × BindsLocals q.1

    procedure_on : (depth : ℕ) (here : Here) (e : E) (c : Clause A) (s : S) → OfOk Made (procedure f ops depth here e c s).0
    procedure_on depth here e c s =
        then_on (Binding BindsLocals) Made (bound ops (λ d ts. f depth here d (body ts)) c.formals.names e c.body s) (λ (q : List Binder × Core). done (record { names = q.0; rest = c.formals.rest }, q.1))
        (bound_on BindsLocals (λ d ts. f depth here d (body ts)) (λ d ts t. law depth here d (body ts) t) c.formals.names e c.body s) (λ q t x. x)

    lambda_on : (depth : ℕ) (here : Here) (e : E) (c : Clause A) (s : S) → OfOk BindsLocals (lambda f ops depth here e c s).0
    lambda_on depth here e c s =
        node_on BindsLocals here 1 depth (λ below t. procedure f ops below here e c t >>= λ q. done (Lambda q.0 q.1)) s
        (λ below t. then_on Made BindsLocals (procedure f ops below here e c t) (λ q. done (Lambda q.0 q.1)) (procedure_on below here e c t) (λ q u x. x))

    clauses_on : (depth : ℕ) (here : Here) (e : E) (cs : List (Clause A)) (s : S) → OfOk ClausesBindLocals (clauses f ops depth here e cs s).0
    clauses_on depth here e [] s = tt
    clauses_on depth here e (c ∷ cs) s =
        then_on Made ClausesBindLocals (procedure f ops depth here e c s) (λ q t. clauses f ops depth here e cs t >>= λ more. done (clause q.0 q.1 more)) (procedure_on depth here e c s)
        (λ q t x. then_on ClausesBindLocals ClausesBindLocals (clauses f ops depth here e cs t) (λ more. done (clause q.0 q.1 more)) (clauses_on depth here e cs t) (λ more u y. (x.0, x.1, y)))

    -- ---- what was set aside

    assignment_on : (depth : ℕ) (here : Here) (e : E) (n : Named A) (value : ℕ → Step S Core) (s : S) → ((below : ℕ) (t : S) → OfOk BindsLocals (value below t).0) → OfOk BindsLocals (assignment ops depth here e n value s).0
    assignment_on depth here e n value s h =
        node_on BindsLocals here 1 depth (λ below t. value below t >>= λ c. done (Set (target_of ops e t n.name n.occ) c)) s
        (λ below t. then_on BindsLocals BindsLocals (value below t) (λ c. done (Set (target_of ops e t n.name n.occ) c)) (h below t) (λ c u x. x))

    pub item_on : (local : Bool) (depth : ℕ) (e : E) (i : Item A) (s : S) → ItemBinds local i → OfOk (PartBinds local) (item_part f ops depth e i s).0
    item_on local depth e (Expression form) s h = then_on BindsLocals (PartBinds local) (f depth form.here e (whole form.tree) s) (λ c. done (expression_part c)) (law depth form.here e (whole form.tree) s) (λ c t x. x)
    item_on local depth e (Value b form) s h = then_on BindsLocals (PartBinds local) (f depth form.here e (whole form.tree) s) (λ c. done (define_part b c)) (law depth form.here e (whole form.tree) s) (λ c t x. (h, x))
    item_on local depth e (Function b here c) s h = then_on BindsLocals (PartBinds local) (lambda f ops depth here e c s) (λ l. done (define_part b l)) (lambda_on depth here e c s) (λ l t x. (h, x))
    item_on local depth e (Assigned n form) s h =
        then_on BindsLocals (PartBinds local) (assignment ops depth form.here e n (λ below. f below form.here e (whole form.tree)) s) (λ c. done (expression_part c))
        (assignment_on depth form.here e n (λ below. f below form.here e (whole form.tree)) s (λ below t. law below form.here e (whole form.tree) t)) (λ c t x. x)
    item_on local depth e (AssignedFunction n here c) s h =
        then_on BindsLocals (PartBinds local) (assignment ops depth here e n (λ below. lambda f ops below here e c) s) (λ l. done (expression_part l)) (assignment_on depth here e n (λ below. lambda f ops below here e c) s (λ below t. lambda_on below here e c t)) (λ l t x. x)
    item_on local depth e (ValuesOf bs form) s h = then_on BindsLocals (PartBinds local) (f depth form.here e (whole form.tree) s) (λ c. done (values_part bs c)) (law depth form.here e (whole form.tree) s) (λ c t x. (h, x))
    item_on local depth e (Record r) s h = h
    item_on local depth e (Macro b here) s h = macro_binder local s b (ops.transformer s _) h

    parts_on : (local : Bool) (depth : ℕ) (e : E) (is : List (Item A)) (s : S) → ItemsBind local is → OfOk (PartsBind local) (parts (item_part f ops depth e) is s).0
    parts_on local depth e [] s h = tt
    parts_on local depth e (i ∷ is) s h =
        then_on (PartBinds local) (PartsBind local) (item_part f ops depth e i s) (λ p. λ t. parts (item_part f ops depth e) is t >>= λ ps. done (part p ps)) (item_on local depth e i s h.0)
        (λ p t x. then_on (PartsBind local) (PartsBind local) (parts (item_part f ops depth e) is t) (λ ps. done (part p ps)) (parts_on local depth e is t h.1) (λ ps u y. (x, y)))

    body_in_on : (turns depth : ℕ) (here : Here) (r : Region E A S) → ((t : S) → BindsAs true (ops.next_bound r.env t)) → OfOk BindsLocals (body_in ops turns (item_part f ops depth) here r).0
    body_in_on turns depth here r next =
        let p : Pending A L = record { todo = forms_at here r.trees; aside = []; uses = []; notes = [] } in
        let more : Left A → Step S Core = λ l t. parts (item_part f ops depth r.env) l.items (meet_all ops r.env l.uses t) >>= λ ps. done (Body ps) in
        then_on (λ (l : Left A). ItemsBind true l.items) BindsLocals (left_of (run ops turns r.env p r.state)) more (run_on loud left true r.env next turns p r.state tt)
        (λ l t h. then_on (PartsBind true) BindsLocals (parts (item_part f ops depth r.env) l.items (meet_all ops r.env l.uses t)) (λ ps. done (Body ps)) (parts_on true depth r.env l.items (meet_all ops r.env l.uses t) h) (λ ps u x. x))

    body_on : (turns depth : ℕ) (here : Here) (e : E) (ts : Trees A) (s : S) → OfOk BindsLocals (body_core f ops turns depth here e ts s).0
    body_on turns depth here e ts s = node_on BindsLocals here 1 depth (λ below t. body_in ops turns (item_part f ops below) here (ops.enter e ts t)) s (λ below t. body_in_on turns below here (ops.enter e ts t) (inside e ts t))

    sequence_on : (depth : ℕ) (here : Here) (e : E) (ts : Trees A) (s : S) → OfOk BindsLocals (sequence f ops depth here e ts s).0
    sequence_on depth here e ts s =
        node_on BindsLocals here 1 depth (λ below t. expressions (λ u. f below here e (whole u)) ts t >>= λ ps. done (Body ps)) s
        (λ below t. then_on (PartsBind true) BindsLocals (expressions (λ u. f below here e (whole u)) ts t) (λ ps. done (Body ps)) (expressions_on (λ u. f below here e (whole u)) (λ u v. law below here e (whole u) v) ts t) (λ ps u x. x))

    -- ---- local macros

    macros_on : (depth : ℕ) (here : Here) (vs : List Number) (ns : List (Named A)) (d : E) (rules : Trees A) (e : E) (ts : Trees A) (s : S) → OfOk BindsLocals (local_macros f ops depth here vs ns d rules e ts s).0
    macros_on depth here vs ns d rules e ts s =
        then_on (λ (rs : List (RulesParts A)). Unit {0}) BindsLocals (heads ops here d rules s)
        (λ rs. node ops here 1 depth (λ below t. keep_all ops here d vs rules rs t >>= λ u t1. f below here e (body ts) t1 >>= λ c. done (LetSyntax (local_defs ops t1 vs ns) c)))
        (any_of (heads ops here d rules s).0)
        (λ rs t0 w. node_on BindsLocals here 1 depth (λ below t. keep_all ops here d vs rules rs t >>= λ u t1. f below here e (body ts) t1 >>= λ c. done (LetSyntax (local_defs ops t1 vs ns) c)) t0
        (λ below t. then_on (λ (u : Unit {0}). Unit {0}) BindsLocals (keep_all ops here d vs rules rs t) (λ u t1. f below here e (body ts) t1 >>= λ c. done (LetSyntax (local_defs ops t1 vs ns) c)) (any_of (keep_all ops here d vs rules rs t).0)
        (λ u t1 y. then_on BindsLocals BindsLocals (f below here e (body ts) t1) (λ c. done (LetSyntax (local_defs ops t1 vs ns) c)) (law below here e (body ts) t1) (λ c t2 x. (local_defs_on t1 vs ns, x)))))

    recursive_on : (depth : ℕ) (here : Here) (vs : List Number) (ns : List (Named A)) (e : E) (ts : Trees A) (s : S) → OfOk BindsLocals (recursive f ops depth here vs ns e ts s).0
    recursive_on depth here vs ns e no_trees s = tt
    recursive_on depth here vs ns e (tree (name i o) ts) s = tt
    recursive_on depth here vs ns e (tree (atom a o) ts) s = tt
    recursive_on depth here vs ns e (tree (vector us o) ts) s = tt
    recursive_on depth here vs ns e (tree (list rules tail o) ts) s = macros_on depth here vs ns e rules e ts s

    let_on : (depth : ℕ) (here : Here) (e : E) (m : LocalMacros A) (s : S) → OfOk BindsLocals (let_syntax f ops depth here e m s).0
    let_on depth here e m s =
        let g : E → Trees A → Step S Core = λ d ts. local_macros f ops depth here (numbers (ops.next_local s) m.names) m.names e m.rules d ts in
        then_on (Binding BindsLocals) BindsLocals (bound ops g m.names e m.body s) (λ (q : List Binder × Core). done q.1) (bound_on BindsLocals g (λ d ts t. macros_on depth here (numbers (ops.next_local s) m.names) m.names e m.rules d ts t) m.names e m.body s) (λ q t x. x.1)

    letrec_on : (depth : ℕ) (here : Here) (e : E) (m : LocalMacros A) (s : S) → OfOk BindsLocals (letrec_syntax f ops depth here e m s).0
    letrec_on depth here e m s =
        let g : E → Trees A → Step S Core = recursive f ops depth here (numbers (ops.next_local s) m.names) m.names in
        let ts : Trees A = tree (list m.rules proper None) m.body in
        then_on (Binding BindsLocals) BindsLocals (bound ops g m.names e ts s) (λ (q : List Binder × Core). done q.1) (bound_on BindsLocals g (λ d us t. recursive_on depth here (numbers (ops.next_local s) m.names) m.names d us t) m.names e ts s) (λ q t x. x.1)

    -- ---- other core forms

    quasi_on : (depth : ℕ) (here : Here) (e : E) (p : Pieces A) (s : S) → OfOk BindsLocals (quasi f ops depth here e p s).0
    quasi_on depth here e p s =
        node_on BindsLocals here (1 + outside p.datum) depth (λ below t. each_of (λ u. f below here e (whole u)) p.holes t >>= λ cs. done (Quasi (map_tree (symbol_or_hole ops.names.strip) p.datum) cs)) s
        (λ below t. then_on AllBindLocals BindsLocals (each_of (λ u. f below here e (whole u)) p.holes t) (λ cs. done (Quasi (map_tree (symbol_or_hole ops.names.strip) p.datum) cs)) (each_of_on (λ u. f below here e (whole u)) (λ u v. law below here e (whole u) v) p.holes t) (λ cs u x. x))

    set_on : (depth : ℕ) (here : Here) (e : E) (p : Named A × Tree A) (s : S) → OfOk BindsLocals (set f ops depth here e p s).0
    set_on depth here e p s =
        let go : Step S Core = node ops here 1 depth (λ below t. f below here e (whole p.1) t >>= λ c. done (Set (target_of ops e t p.0.name p.0.occ) c)) in
        unless_on here (head_of ops e s p.0.name) p.0 go s
        (node_on BindsLocals here 1 depth (λ below t. f below here e (whole p.1) t >>= λ c. done (Set (target_of ops e t p.0.name p.0.occ) c)) s
        (λ below t. then_on BindsLocals BindsLocals (f below here e (whole p.1) t) (λ c. done (Set (target_of ops e t p.0.name p.0.occ) c)) (law below here e (whole p.1) t) (λ c u x. x)))

    call_on : (depth : ℕ) (here : Here) (e : E) (ts : Trees A) (tail : Tail A) (s : S) → OfOk BindsLocals (call f ops depth here e ts tail s).0
    call_on depth here e ts (dotted u) s = tt
    call_on depth here e ts proper s =
        node_on BindsLocals here 1 depth (λ below t. each (λ u. f below here e (whole u)) ts t >>= λ cs. done (Call cs)) s
        (λ below t. then_on AllBindLocals BindsLocals (each (λ u. f below here e (whole u)) ts t) (λ cs. done (Call cs)) (each_on (λ u. f below here e (whole u)) (λ u v. law below here e (whole u) v) ts t) (λ cs u x. x))

    chosen_on : (depth : ℕ) (here : Here) (e : E) (o : Option (Trees A)) (s : S) → OfOk BindsLocals (chosen_sequence f ops depth here e o s).0
    chosen_on depth here e None s = tt
    chosen_on depth here e (Some no_trees) s = tt
    chosen_on depth here e (Some (tree t ts)) s = sequence_on depth here e (tree t ts) s

    core_on : (depth : ℕ) (here : Here) (e : E) (k : CoreKeyword) (ts : Trees A) (tail : Tail A) (s : S) → OfOk BindsLocals (core_form f ops depth here e k ts tail s).0
    core_on depth here e IsQuote ts tail s = given_on BindsLocals here (one_of ts tail) (quote ops depth here) s (quote_on depth here)
    core_on depth here e IsQuasiquote ts tail s = given_on BindsLocals here (one_of ts tail >> quasi_of (λ i. mark_of (head_of ops e s i))) (quasi f ops depth here e) s (quasi_on depth here e)
    core_on depth here e IsLambda ts tail s = given_on BindsLocals here (lambda_of ops.names.same ts tail) (lambda f ops depth here e) s (lambda_on depth here e)
    core_on depth here e IsCaseLambda ts tail s =
        given_on BindsLocals here (case_lambda_of ops.names.same ts tail) (λ cs. node ops here 1 depth (λ below t. clauses f ops below here e cs t >>= λ more. done (CaseLambda more))) s
        (λ cs t0. node_on BindsLocals here 1 depth (λ below t. clauses f ops below here e cs t >>= λ more. done (CaseLambda more)) t0
        (λ below t. then_on ClausesBindLocals BindsLocals (clauses f ops below here e cs t) (λ more. done (CaseLambda more)) (clauses_on below here e cs t) (λ more u x. x)))
    core_on depth here e IsIf ts tail s =
        given_on BindsLocals here (if_of ts tail) (λ us. node ops here 1 depth (λ below t. each (λ u. f below here e (whole u)) us t >>= λ cs. done (If cs))) s
        (λ us t0. node_on BindsLocals here 1 depth (λ below t. each (λ u. f below here e (whole u)) us t >>= λ cs. done (If cs)) t0
        (λ below t. then_on AllBindLocals BindsLocals (each (λ u. f below here e (whole u)) us t) (λ cs. done (If cs)) (each_on (λ u. f below here e (whole u)) (λ u v. law below here e (whole u) v) us t) (λ cs u x. x)))
    core_on depth here e IsSet ts tail s = given_on BindsLocals here (named_tree_of ts tail) (set f ops depth here e) s (set_on depth here e)
    core_on depth here e IsBegin ts tail s = given_on BindsLocals here (some_of ts tail) (sequence f ops depth here e) s (sequence_on depth here e)
    core_on depth here e IsDefine ts tail s = given_on BindsLocals here (definition_of ops.names.same ts tail) (misplaced here) s (λ b t. tt)
    core_on depth here e IsDefineValues ts tail s = given_on BindsLocals here (values_of ops.names.same ts tail) (misplaced here) s (λ b t. tt)
    core_on depth here e IsDefineRecordType ts tail s = tt
    core_on depth here e IsDefineSyntax ts tail s = given_on BindsLocals here (syntax_of ts tail) (misplaced here) s (λ b t. tt)
    core_on depth here e IsLetSyntax ts tail s = given_on BindsLocals here (local_macros_of ops.names.same ts tail) (let_syntax f ops depth here e) s (let_on depth here e)
    core_on depth here e IsLetrecSyntax ts tail s = given_on BindsLocals here (local_macros_of ops.names.same ts tail) (letrec_syntax f ops depth here e) s (letrec_on depth here e)
    core_on depth here e IsCondExpand ts tail s = given_on BindsLocals here (chosen_of ops.names.strip ops.known ts tail) (chosen_sequence f ops depth here e) s (chosen_on depth here e)
    core_on depth here e IsSyntaxError ts tail s = given_on BindsLocals here (error_text_of ts tail) (λ text. fails here (SyntaxError text)) s (λ text t. tt)
    core_on depth here e IsInclude ts tail s = tt

    use_on : (depth : ℕ) (here : Here) (e : E) (k : Target) (o : Option (Transformer E A)) (ts : Trees A) (tail : Tail A) (s : S) → OfOk BindsLocals (macro_use f ops depth here e k o ts tail s).0
    use_on depth here e k None ts tail s = tt
    use_on depth here e k (Some m) ts tail s = then_on (λ (i : Instance A). Unit {0}) BindsLocals (use_of ops here e k m ts tail s) (λ i t. f depth here e (whole i.tree) (meet_waiting ops e i.met t)) (any_of (use_of ops here e k m ts tail s).0)
        (λ i u x. law depth here e (whole i.tree) (meet_waiting ops e i.met u))

    head_on : (depth : ℕ) (here : Here) (e : E) (d : Head) (n : Named A) (ts : Trees A) (tail : Tail A) (s : S) → OfOk BindsLocals (by_head f ops depth here e d n ts tail s).0
    head_on depth here e (IsCore c) n ts tail s = core_on depth here e c ts tail (ops.meet (target_of ops e s n.name n.occ) s)
    head_on depth here e (IsAuxiliary a) n ts tail s = call_on depth here e (tree (name n.name n.occ) ts) tail s
    head_on depth here e (IsMacro m) n ts tail s = use_on depth here e (target_of ops e s n.name n.occ) (ops.transformer s m) ts tail s
    head_on depth here e IsNone n ts tail s = call_on depth here e (tree (name n.name n.occ) ts) tail s

    expression_on : (depth : ℕ) (here : Here) (e : E) (t : Tree A) (s : S) → OfOk BindsLocals (expression f ops depth here e t s).0
    expression_on depth here e (name i o) s = reference_on depth here e (named i o) s
    expression_on depth here e (atom a o) s = node_on BindsLocals here 2 depth (λ below. done (Const a)) s (λ below t. tt)
    expression_on depth here e (vector ts o) s = quote_on depth here (vector ts o) s
    expression_on depth here e (list no_trees tail o) s = tt
    expression_on depth here e (list (tree (name i q) ts) tail o) s = head_on depth here e (head_of ops e s i) (named i q) ts tail s
    expression_on depth here e (list (tree (atom a q) ts) tail o) s = call_on depth here e (tree (atom a q) ts) tail s
    expression_on depth here e (list (tree (list us end q) ts) tail o) s = call_on depth here e (tree (list us end q) ts) tail s
    expression_on depth here e (list (tree (vector us q) ts) tail o) s = call_on depth here e (tree (vector us q) ts) tail s

  pub expand_on : (turns depth : ℕ) (here : Here) (e : E) (task : Task A) (s : S) → OfOk BindsLocals (expand ops turns depth here e task s).0
  expand_on zero depth here e task s = tt
  expand_on (suc turns) depth here e (whole t) s = expression_on (expand ops turns) (expand_on turns) depth (here_at ops.plain t here) e t s
  expand_on (suc turns) depth here e (body ts) s = body_on (expand ops turns) (expand_on turns) turns depth here e ts s
