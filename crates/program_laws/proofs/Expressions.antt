-- Expressions are expanded within the turns: the turns bound how deep the recursion goes, and each step of it is at a smaller depth or
-- takes a macro use.
use Rattle.std.proofs.Common.{ℕ, zero, suc, ◌+◌, ◌*◌, ◌≤◌, ◌<◌, List, [], ◌∷◌, Option, Some, None, Result, arith}
use Rattle.scheme_model.specs.Identifiers.{Number}
use Rattle.scheme_model.specs.Keywords.{CoreKeyword, IsQuote, IsQuasiquote, IsLambda, IsCaseLambda, IsIf, IsSet, IsBegin, IsDefine, IsDefineValues, IsDefineRecordType, IsDefineSyntax, IsLetSyntax, IsLetrecSyntax, IsCondExpand, IsSyntaxError, IsInclude}
use Rattle.scheme_model.specs.Trees.{Tree, name, atom, list, vector, Trees, no_trees, tree, Tail, proper, dotted, map_tree}
use Rattle.scheme_model.specs.Measures.{tree_size, trees_size}
use Rattle.scheme_model.specs.ExpansionFaults.{Named, named, Fault, SyntaxError, ◌>>◌}
use Rattle.scheme_model.specs.Meaning.{Head, IsCore, IsAuxiliary, IsMacro, IsNone}
use Rattle.scheme_model.specs.Shapes.{Clause, lambda_of, case_lambda_of, if_of, named_tree_of, syntax_of, some_of, one_of, error_text_of, definition_of, values_of, LocalMacros, local_macros_of}
use Rattle.scheme_model.specs.Requirements.{chosen_of}
use Rattle.scheme_model.specs.Quasiquote.{quasi_of, Pieces}
use Rattle.scheme_model.specs.Building.{max_nodes}
use Rattle.scheme_model.specs.Cores.{Target, LocalNumber, Binder, Binders, Core, Ref, Const, Quote, Quasi, Lambda, CaseLambda, If, Set, Call, Body, LetSyntax, core, clause, part, Expression as expression_part, Define as define_part, Values as values_part, outside}
use Rattle.scheme_model.specs.Steps.{Broken, Step, ◌>>=◌, done, fails}
use Rattle.scheme_model.specs.Order.{Here, Item, Expression, Value, Function, Assigned, AssignedFunction, ValuesOf, Record, Macro, Left, Pending, Region, Transformer, Ops, Instance, max_uses, target_of, head_of, here_at, forms_at, counting, given, use_of, meet_waiting, meet_all, RulesParts, rules_parts_of, rules_parts, rules_at, run}
use Rattle.scheme_model.specs.Expression.{Task, whole, body, Expander, node, each, each_of, bound, procedure, lambda, clauses, assignment, item_part, parts, left_of, body_in, body_core, expressions, sequence, heads, keep_all, numbers, local_defs, local_macros, recursive, let_syntax, letrec_syntax, mark_of, symbol_or_hole, quasi, quote, unless_keyword, set, reference, call, misplaced, chosen_sequence, core_form, macro_use, by_head, expression, expand}
use Rattle.program_laws.proofs.Faults.{Gives, Any, then_gives}
use Rattle.program_laws.proofs.Shapes.{TreeWithin, TreesWithin, ClauseWithin, ClausesWithin, NamedWithin, DefinitionWithin, ValuesWithin, MacrosWithin, ChosenWithin, some_within, one_within, lambda_within, case_lambda_within, if_within, named_tree_within, syntax_within, error_text_any, definition_within, values_within, local_macros_within, chosen_within}
use Rattle.program_laws.proofs.Quasi.{AllWithin, HolesWithin, quasi_within}
use Rattle.program_laws.proofs.Steps.{ItemWithin, ItemsWithin, Keeps, Has, Ends, has_same, then_ends, given_ends, counting_ends, Began, used_then, use_ends, met_has, all_met_has}
use Rattle.program_laws.proofs.Runs.{forms_total, forms_within, parts_end, rules_end, run_ends}

-- trees have at most n nodes, and `need` turns suffice for the forms of a body
module _ {E A L S : Type 0} (loud : Ops E A L S) (keeps : Keeps loud) (n need : ℕ) (large : max_nodes ≤ n) (enough : n + max_uses * max_nodes < need) where
  -- nothing is asked
  abbrev ops : Ops E A L S
  ops = record loud { ask = λ qs s. s }

  -- turns for what stands at a depth, or inside of it, while so many uses are left
  abbrev pub At : ℕ → ℕ → ℕ → Type 0
  At turns depth m = (m ≤ max_uses) × (depth + (m + need) ≤ turns)

  abbrev pub Below : ℕ → ℕ → ℕ → Type 0
  Below turns depth m = (m ≤ max_uses) × (depth + (m + need) < turns)

  abbrev pub TaskWithin : Task A → Type 0
  TaskWithin (whole t) = tree_size t ≤ n
  TaskWithin (body ts) = trees_size ts ≤ n

  abbrev Works : {V : Type 0} → ℕ → Step S V → Type 0
  Works m f = (s : S) → Has loud keeps m s → Ends loud keeps m Any (f s)

  abbrev pub Expands : ℕ → Expander E A S → Type 0
  Expands turns F = (depth m : ℕ) (here : Here) (e : E) (task : Task A) (s : S) → Below turns depth m → TaskWithin task → Has loud keeps m s → Ends loud keeps m Any (F depth here e task s)

  -- a value is made of what was expanded
  made : {V W : Type 0} (m : ℕ) (q : Result V Broken × S) (f : V → W) → Ends loud keeps m Any q → Ends loud keeps m Any (q >>= λ v. done (f v))
  made m q f h = then_ends loud keeps m Any Any q (λ v. done (f v)) h (λ v t k x. (k, tt))

  node_ends : {V : Type 0} (turns m : ℕ) (here : Here) (k depth : ℕ) (f : ℕ → Step S V) (s : S) → At turns depth m → Has loud keeps m s → ((below : ℕ) → Below turns below m → Works m (f below)) → Ends loud keeps m Any (node ops here k depth f s)
  node_ends turns m here k zero f s at h g = (h, tt)
  node_ends turns m here k (suc depth) f s at h g = then_ends loud keeps m Any Any (counting ops here k s) (λ u. f depth) (counting_ends loud keeps m here k s h) (λ u t l x. g depth (omega (arith, at)) t l)

  -- something is read, and then it goes on
  read_ends : {X V : Type 0} (m : ℕ) (P : X → Type 0) (here : Here) (r : Result X (Fault A)) (f : X → Step S V) (s : S) → Has loud keeps m s → Gives P r → ((x : X) → P x → Works m (f x)) → Ends loud keeps m Any (given ops.plain here r s >>= f)
  read_ends m P here r f s h k g = then_ends loud keeps m P Any (given ops.plain here r s) f (given_ends loud keeps m P here r s h k) (λ x t l y. g x y t l)

  -- ---- tree by tree

  module _ (m : ℕ) (f : Tree A → Step S Core) (law : (t : Tree A) → tree_size t ≤ n → Works m (f t)) where
    each_ends : (ts : Trees A) → trees_size ts ≤ n → Works m (each f ts)
    each_ends no_trees le s h = (h, tt)
    each_ends (tree t ts) le s h = then_ends loud keeps m Any Any (f t s) (λ c t1. each f ts t1 >>= λ cs. done (core c cs)) (law t (omega (arith, le)) s h) (λ c t1 k x. made m (each f ts t1) (core c) (each_ends ts (omega (arith, le)) t1 k))

    each_of_ends : (ts : List (Tree A)) → AllWithin n ts → Works m (each_of f ts)
    each_of_ends [] w s h = (h, tt)
    each_of_ends (t ∷ ts) w s h = then_ends loud keeps m Any Any (f t s) (λ c t1. each_of f ts t1 >>= λ cs. done (core c cs)) (law t w.0 s h) (λ c t1 k x. made m (each_of f ts t1) (core c) (each_of_ends ts w.1 t1 k))

    expressions_ends : (ts : Trees A) → trees_size ts ≤ n → Works m (expressions f ts)
    expressions_ends no_trees le s h = (h, tt)
    expressions_ends (tree t ts) le s h =
        then_ends loud keeps m Any Any (f t s) (λ c t1. expressions f ts t1 >>= λ ps. done (part (expression_part c) ps)) (law t (omega (arith, le)) s h) (λ c t1 k x. made m (expressions f ts t1) (part (expression_part c)) (expressions_ends ts (omega (arith, le)) t1 k))

  -- ---- binders

  bound_ends : {V : Type 0} (m : ℕ) (f : E → Trees A → Step S V) → ((e : E) (ts : Trees A) → trees_size ts ≤ n → Works m (f e ts)) → (is : List (Named A)) (e : E) (ts : Trees A) → trees_size ts ≤ n → Works m (bound ops f is e ts)
  bound_ends {V} m f law [] e ts le s h = made m (f e ts s) (λ (v : V). ([], v)) (law e ts le s h)
  bound_ends {V} m f law (i ∷ is) e ts le s h =
      let r = ops.bind i.name e ts s in
      let a = keeps.bound i.name e ts s in
      made m (bound ops f is r.env r.trees r.state) (λ (q : List Binder × V). (record { bound = LocalNumber (ops.next_local s); ident = ops.plain i.name; occ = i.occ } ∷ q.0, q.1))
      (bound_ends m f law is r.env r.trees (omega (arith, a, le)) r.state (has_same loud keeps m s r.state (keeps.bind i.name e ts s) h))

  unless_ends : {V : Type 0} (m : ℕ) (here : Here) (c : Head) (i : Named A) (f : Step S V) → Works m f → Works m (unless_keyword ops here c i f)
  unless_ends m here (IsCore k) i f law s h = (h, tt)
  unless_ends m here (IsAuxiliary a) i f law s h = (h, tt)
  unless_ends m here (IsMacro x) i f law s h = (h, tt)
  unless_ends m here IsNone i f law s h = law s h

  -- ---- macro definitions

  heads_end : (m : ℕ) (here : Here) (e : E) (ts : Trees A) → Works m (heads ops here e ts)
  heads_end m here e no_trees s h = (h, tt)
  heads_end m here e (tree t ts) s h =
      then_ends loud keeps m Any Any (rules_parts ops here e (rules_parts_of t) s) (λ r t1. heads ops here e ts t1 >>= λ rs. done (r ∷ rs)) (parts_end loud keeps m here e (rules_parts_of t) s h)
      (λ r t1 k x. made m (heads ops here e ts t1) (λ (rs : List (RulesParts A)). r ∷ rs) (heads_end m here e ts t1 k))

  keep_ends : (m : ℕ) (here : Here) (e : E) (vs : List Number) (ts : Trees A) (rs : List (RulesParts A)) → Works m (keep_all ops here e vs ts rs)
  keep_ends m here e [] ts rs s h = (h, tt)
  keep_ends m here e (v ∷ vs) no_trees rs s h = (h, tt)
  keep_ends m here e (v ∷ vs) (tree t ts) [] s h = (h, tt)
  keep_ends m here e (v ∷ vs) (tree t ts) (r ∷ rs) s h =
      then_ends loud keeps m Any Any (rules_at ops here t r s) (λ rules t1. keep_all ops here e vs ts rs (ops.keep v rules e t1)) (rules_end loud keeps m here t r s h)
      (λ rules t1 k x. keep_ends m here e vs ts rs (ops.keep v rules e t1) (has_same loud keeps m t1 (ops.keep v rules e t1) (keeps.keep v rules e t1) k))

  -- ---- what an expander does of parts

  module _ (turns : ℕ) (F : Expander E A S) (law : Expands turns F) where
    whole_ends : (m depth : ℕ) (here : Here) (e : E) → Below turns depth m → (t : Tree A) → tree_size t ≤ n → Works m (λ s. F depth here e (whole t) s)
    whole_ends m depth here e at t le s h = law depth m here e (whole t) s at le h

    procedure_ends : (m depth : ℕ) (here : Here) (e : E) (c : Clause A) → Below turns depth m → ClauseWithin n c → Works m (procedure F ops depth here e c)
    procedure_ends m depth here e c at le s h =
        let f : E → Trees A → Step S Core = λ d ts. F depth here d (body ts) in
        made m (bound ops f c.formals.names e c.body s) (λ (q : List Binder × Core). (record { names = q.0; rest = c.formals.rest }, q.1)) (bound_ends m f (λ d ts l t k. law depth m here d (body ts) t at l k) c.formals.names e c.body le s h)

    lambda_ends : (m depth : ℕ) (here : Here) (e : E) (c : Clause A) → At turns depth m → ClauseWithin n c → Works m (lambda F ops depth here e c)
    lambda_ends m depth here e c at le s h =
        node_ends turns m here 1 depth (λ below t. procedure F ops below here e c t >>= λ q. done (Lambda q.0 q.1)) s at h
        (λ below b t k. made m (procedure F ops below here e c t) (λ (q : Binders × Core). Lambda q.0 q.1) (procedure_ends m below here e c b le t k))

    clauses_ends : (m depth : ℕ) (here : Here) (e : E) (cs : List (Clause A)) → Below turns depth m → ClausesWithin n cs → Works m (clauses F ops depth here e cs)
    clauses_ends m depth here e [] at w s h = (h, tt)
    clauses_ends m depth here e (c ∷ cs) at w s h =
        then_ends loud keeps m Any Any (procedure F ops depth here e c s) (λ q t. clauses F ops depth here e cs t >>= λ more. done (clause q.0 q.1 more)) (procedure_ends m depth here e c at w.0 s h)
        (λ q t k x. made m (clauses F ops depth here e cs t) (clause q.0 q.1) (clauses_ends m depth here e cs at w.1 t k))

    -- ---- what was set aside

    assignment_ends : (m depth : ℕ) (here : Here) (e : E) (i : Named A) (f : ℕ → Step S Core) → At turns depth m → ((below : ℕ) → Below turns below m → Works m (f below)) → Works m (assignment ops depth here e i f)
    assignment_ends m depth here e i f at step s h =
        node_ends turns m here 1 depth (λ below t. f below t >>= λ c. done (Set (target_of ops e t i.name i.occ) c)) s at h (λ below b t k. made m (f below t) (Set (target_of ops e t i.name i.occ)) (step below b t k))

    pub item_ends : (m depth : ℕ) (e : E) (i : Item A) → Below turns depth m → ItemWithin n i → Works m (item_part F ops depth e i)
    item_ends m depth e (Expression x) at w s h = made m (F depth x.here e (whole x.tree) s) expression_part (law depth m x.here e (whole x.tree) s at w h)
    item_ends m depth e (Value b x) at w s h = made m (F depth x.here e (whole x.tree) s) (define_part b) (law depth m x.here e (whole x.tree) s at w h)
    item_ends m depth e (Function b here c) at w s h = made m (lambda F ops depth here e c s) (define_part b) (lambda_ends m depth here e c (omega (arith, at)) w s h)
    item_ends m depth e (Assigned i x) at w s h =
        made m (assignment ops depth x.here e i (λ below. F below x.here e (whole x.tree)) s) expression_part (assignment_ends m depth x.here e i (λ below. F below x.here e (whole x.tree)) (omega (arith, at)) (λ below b t k. law below m x.here e (whole x.tree) t b w k) s h)
    item_ends m depth e (AssignedFunction i here c) at w s h =
        made m (assignment ops depth here e i (λ below. lambda F ops below here e c) s) expression_part (assignment_ends m depth here e i (λ below. lambda F ops below here e c) (omega (arith, at)) (λ below b t k. lambda_ends m below here e c (omega (arith, b)) w t k) s h)
    item_ends m depth e (ValuesOf bs x) at w s h = made m (F depth x.here e (whole x.tree) s) (values_part bs) (law depth m x.here e (whole x.tree) s at w h)
    item_ends m depth e (Record r) at w s h = (h, tt)
    item_ends m depth e (Macro b here) at w s h = (h, tt)

    all_items_end : (m depth : ℕ) (e : E) (is : List (Item A)) → Below turns depth m → ItemsWithin n is → Works m (parts (item_part F ops depth e) is)
    all_items_end m depth e [] at w s h = (h, tt)
    all_items_end m depth e (i ∷ is) at w s h =
        then_ends loud keeps m Any Any (item_part F ops depth e i s) (λ p t. parts (item_part F ops depth e) is t >>= λ ps. done (part p ps)) (item_ends m depth e i at w.0 s h)
        (λ p t k x. made m (parts (item_part F ops depth e) is t) (part p) (all_items_end m depth e is at w.1 t k))

    -- ---- bodies

    body_in_ends : (m depth : ℕ) (here : Here) (r : Region E A S) → Below turns depth m → trees_size r.trees ≤ n → Has loud keeps m r.state → (k : ℕ) → need ≤ k → Ends loud keeps m Any (body_in ops k (item_part F ops depth) here r)
    body_in_ends m depth here r at le h k more =
        let forms = forms_total here r.trees in
        let few = at.0 in
        let p : Pending A L = record { todo = forms_at here r.trees; aside = []; uses = []; notes = [] } in
        let f : Left A → Step S Core = λ l t. parts (item_part F ops depth r.env) l.items (meet_all ops r.env l.uses t) >>= λ ps. done (Body ps) in
        then_ends loud keeps m (λ (l : Left A). ItemsWithin n l.items) Any (left_of (run ops k r.env p r.state)) f
        (run_ends loud keeps n large r.env k m p r.state h (omega (arith, forms, le, few, more, enough)) (record { todo = forms_within n here r.trees le; aside = tt }))
        (λ l t x y. made m (parts (item_part F ops depth r.env) l.items (meet_all ops r.env l.uses t)) Body (all_items_end m depth r.env l.items at y (meet_all ops r.env l.uses t) (all_met_has loud keeps m r.env l.uses t x)))

    body_ends : (m depth : ℕ) (here : Here) (e : E) (ts : Trees A) (k : ℕ) → need ≤ k → At turns depth m → trees_size ts ≤ n → Works m (body_core F ops k depth here e ts)
    body_ends m depth here e ts k more at le s h =
        node_ends turns m here 1 depth (λ below t. body_in ops k (item_part F ops below) here (ops.enter e ts t)) s at h
        (λ below b t x. let a = keeps.entered e ts t in body_in_ends m below here (ops.enter e ts t) b (omega (arith, a, le)) (has_same loud keeps m t ((ops.enter e ts t).state) (keeps.enter e ts t) x) k more)

    sequence_ends : (m depth : ℕ) (here : Here) (e : E) (ts : Trees A) → At turns depth m → trees_size ts ≤ n → Works m (sequence F ops depth here e ts)
    sequence_ends m depth here e ts at le s h =
        node_ends turns m here 1 depth (λ below t. expressions (λ u. F below here e (whole u)) ts t >>= λ ps. done (Body ps)) s at h
        (λ below b t k. made m (expressions (λ u. F below here e (whole u)) ts t) Body (expressions_ends m (λ u. F below here e (whole u)) (whole_ends m below here e b) ts le t k))

    -- ---- local macros

    macros_end : (m depth : ℕ) (here : Here) (vs : List Number) (is : List (Named A)) (d : E) (rules : Trees A) (e : E) (ts : Trees A) → At turns depth m → trees_size ts ≤ n → Works m (local_macros F ops depth here vs is d rules e ts)
    macros_end m depth here vs is d rules e ts at le s h =
        let inside : List (RulesParts A) → ℕ → Step S Core = λ rs below t. keep_all ops here d vs rules rs t >>= λ u t1. F below here e (body ts) t1 >>= λ c. done (LetSyntax (local_defs ops t1 vs is) c) in
        then_ends loud keeps m Any Any (heads ops here d rules s) (λ rs. node ops here 1 depth (inside rs)) (heads_end m here d rules s h)
        (λ rs t0 k x. node_ends turns m here 1 depth (inside rs) t0 at k
        (λ below b t l. then_ends loud keeps m Any Any (keep_all ops here d vs rules rs t) (λ u t1. F below here e (body ts) t1 >>= λ c. done (LetSyntax (local_defs ops t1 vs is) c)) (keep_ends m here d vs rules rs t l)
        (λ u t1 w y. made m (F below here e (body ts) t1) (LetSyntax (local_defs ops t1 vs is)) (law below m here e (body ts) t1 b le w))))

    recursive_ends : (m depth : ℕ) (here : Here) (vs : List Number) (is : List (Named A)) (e : E) (ts : Trees A) → At turns depth m → trees_size ts ≤ n → Works m (recursive F ops depth here vs is e ts)
    recursive_ends m depth here vs is e no_trees at le s h = (h, tt)
    recursive_ends m depth here vs is e (tree (name i o) ts) at le s h = (h, tt)
    recursive_ends m depth here vs is e (tree (atom a o) ts) at le s h = (h, tt)
    recursive_ends m depth here vs is e (tree (vector us o) ts) at le s h = (h, tt)
    recursive_ends m depth here vs is e (tree (list rules tail o) ts) at le s h = macros_end m depth here vs is e rules e ts at (omega (arith, le)) s h

    let_ends : (m depth : ℕ) (here : Here) (e : E) (x : LocalMacros A) → At turns depth m → MacrosWithin n x → Works m (let_syntax F ops depth here e x)
    let_ends m depth here e x at le s h =
        let f : E → Trees A → Step S Core = λ d ts. local_macros F ops depth here (numbers (ops.next_local s) x.names) x.names e x.rules d ts in
        made m (bound ops f x.names e x.body s) (λ (q : List Binder × Core). q.1) (bound_ends m f (λ d ts l. macros_end m depth here (numbers (ops.next_local s) x.names) x.names e x.rules d ts at l) x.names e x.body (omega (arith, le)) s h)

    letrec_ends : (m depth : ℕ) (here : Here) (e : E) (x : LocalMacros A) → At turns depth m → MacrosWithin n x → Works m (letrec_syntax F ops depth here e x)
    letrec_ends m depth here e x at le s h =
        let f : E → Trees A → Step S Core = recursive F ops depth here (numbers (ops.next_local s) x.names) x.names in
        let ts : Trees A = tree (list x.rules proper None) x.body in
        made m (bound ops f x.names e ts s) (λ (q : List Binder × Core). q.1) (bound_ends m f (λ d us l. recursive_ends m depth here (numbers (ops.next_local s) x.names) x.names d us at l) x.names e ts (omega (arith, le)) s h)

    -- ---- other core forms

    quasi_ends : (m depth : ℕ) (here : Here) (e : E) (p : Pieces A) → At turns depth m → HolesWithin n p → Works m (quasi F ops depth here e p)
    quasi_ends m depth here e p at w s h =
        node_ends turns m here (1 + outside p.datum) depth (λ below t. each_of (λ u. F below here e (whole u)) p.holes t >>= λ cs. done (Quasi (map_tree (symbol_or_hole ops.names.strip) p.datum) cs)) s at h
        (λ below b t k. made m (each_of (λ u. F below here e (whole u)) p.holes t) (Quasi (map_tree (symbol_or_hole ops.names.strip) p.datum)) (each_of_ends m (λ u. F below here e (whole u)) (whole_ends m below here e b) p.holes w t k))

    quote_ends : (m depth : ℕ) (here : Here) (t : Tree A) → At turns depth m → Works m (quote ops depth here t)
    quote_ends m depth here t at s h = node_ends turns m here (1 + tree_size t) depth (λ below. done (Quote (map_tree ops.names.strip t))) s at h (λ below b u k. (k, tt))

    set_ends : (m depth : ℕ) (here : Here) (e : E) (p : Named A × Tree A) → At turns depth m → tree_size p.1 ≤ n → Works m (set F ops depth here e p)
    set_ends m depth here e p at le s h =
        let inside : ℕ → Step S Core = λ below t. F below here e (whole p.1) t >>= λ c. done (Set (target_of ops e t p.0.name p.0.occ) c) in
        unless_ends m here (head_of ops e s p.0.name) p.0 (node ops here 1 depth inside)
        (λ t0 k. node_ends turns m here 1 depth inside t0 at k (λ below b t l. made m (F below here e (whole p.1) t) (Set (target_of ops e t p.0.name p.0.occ)) (law below m here e (whole p.1) t b le l))) s h

    reference_ends : (m depth : ℕ) (here : Here) (e : E) (i : Named A) → At turns depth m → Works m (reference ops depth here e i)
    reference_ends m depth here e i at s h =
        let inside : ℕ → Step S Core = λ below t. done (Ref (target_of ops e t i.name i.occ)) t in
        unless_ends m here (head_of ops e s i.name) i (node ops here 1 depth inside) (λ t0 k. node_ends turns m here 1 depth inside t0 at k (λ below b t l. (l, tt))) s h

    call_ends : (m depth : ℕ) (here : Here) (e : E) (ts : Trees A) (tail : Tail A) → At turns depth m → trees_size ts ≤ n → Works m (call F ops depth here e ts tail)
    call_ends m depth here e ts (dotted u) at le s h = (h, tt)
    call_ends m depth here e ts proper at le s h =
        node_ends turns m here 1 depth (λ below t. each (λ u. F below here e (whole u)) ts t >>= λ cs. done (Call cs)) s at h
        (λ below b t k. made m (each (λ u. F below here e (whole u)) ts t) Call (each_ends m (λ u. F below here e (whole u)) (whole_ends m below here e b) ts le t k))

    chosen_ends : (m depth : ℕ) (here : Here) (e : E) (k : ℕ) (o : Option (Trees A)) → At turns depth m → k ≤ n → ChosenWithin ops.names.strip ops.known k o → Works m (chosen_sequence F ops depth here e o)
    chosen_ends m depth here e k None at le w s h = (h, tt)
    chosen_ends m depth here e k (Some no_trees) at le w s h = (h, tt)
    chosen_ends m depth here e k (Some (tree t ts)) at le w s h = sequence_ends m depth here e (tree t ts) at (omega (arith, w, le)) s h

    some_clauses : (k : ℕ) (cs : List (Clause A)) → k ≤ n → ClausesWithin k cs → ClausesWithin n cs
    some_clauses k [] le w = tt
    some_clauses k (c ∷ cs) le w = let a = w.0 in (omega (arith, a, le), some_clauses k cs le w.1)

    quasi_read : (e : E) (s : S) (ts : Trees A) (tail : Tail A) → trees_size ts ≤ n → Gives (HolesWithin n) (one_of ts tail >> quasi_of (λ i. mark_of (head_of ops e s i)))
    quasi_read e s ts tail le = then_gives (TreeWithin (trees_size ts)) (HolesWithin n) (one_of ts tail) (quasi_of (λ i. mark_of (head_of ops e s i))) (one_within ts tail) (λ t x. quasi_within n (λ i. mark_of (head_of ops e s i)) t (omega (arith, x, le)))

    core_ends : (m depth : ℕ) (here : Here) (e : E) (c : CoreKeyword) (ts : Trees A) (tail : Tail A) → At turns depth m → trees_size ts ≤ n → Works m (core_form F ops depth here e c ts tail)
    core_ends m depth here e IsQuote ts tail at le s h = read_ends m (TreeWithin (trees_size ts)) here (one_of ts tail) (quote ops depth here) s h (one_within ts tail) (λ t x. quote_ends m depth here t at)
    core_ends m depth here e IsQuasiquote ts tail at le s h = read_ends m (HolesWithin n) here (one_of ts tail >> quasi_of (λ i. mark_of (head_of ops e s i))) (quasi F ops depth here e) s h (quasi_read e s ts tail le) (λ p x. quasi_ends m depth here e p at x)
    core_ends m depth here e IsLambda ts tail at le s h = read_ends m (ClauseWithin (trees_size ts)) here (lambda_of ops.names.same ts tail) (lambda F ops depth here e) s h (lambda_within ops.names.same ts tail) (λ c x. lambda_ends m depth here e c at (omega (arith, x, le)))
    core_ends m depth here e IsCaseLambda ts tail at le s h =
        read_ends m (ClausesWithin (trees_size ts)) here (case_lambda_of ops.names.same ts tail) (λ cs. node ops here 1 depth (λ below t. clauses F ops below here e cs t >>= λ more. done (CaseLambda more))) s h (case_lambda_within ops.names.same ts tail)
        (λ cs x t0 k. node_ends turns m here 1 depth (λ below t. clauses F ops below here e cs t >>= λ more. done (CaseLambda more)) t0 at k
        (λ below b t l. made m (clauses F ops below here e cs t) CaseLambda (clauses_ends m below here e cs b (some_clauses (trees_size ts) cs le x) t l)))
    core_ends m depth here e IsIf ts tail at le s h =
        read_ends m (TreesWithin (trees_size ts)) here (if_of ts tail) (λ us. node ops here 1 depth (λ below t. each (λ u. F below here e (whole u)) us t >>= λ cs. done (If cs))) s h (if_within ts tail)
        (λ us x t0 k. node_ends turns m here 1 depth (λ below t. each (λ u. F below here e (whole u)) us t >>= λ cs. done (If cs)) t0 at k
        (λ below b t l. made m (each (λ u. F below here e (whole u)) us t) If (each_ends m (λ u. F below here e (whole u)) (whole_ends m below here e b) us (omega (arith, x, le)) t l)))
    core_ends m depth here e IsSet ts tail at le s h = read_ends m (NamedWithin (trees_size ts)) here (named_tree_of ts tail) (set F ops depth here e) s h (named_tree_within ts tail) (λ p x. set_ends m depth here e p at (omega (arith, x, le)))
    core_ends m depth here e IsBegin ts tail at le s h = read_ends m (TreesWithin (trees_size ts)) here (some_of ts tail) (sequence F ops depth here e) s h (some_within ts tail) (λ us x. sequence_ends m depth here e us at (omega (arith, x, le)))
    core_ends m depth here e IsDefine ts tail at le s h = read_ends m (DefinitionWithin (trees_size ts)) here (definition_of ops.names.same ts tail) (misplaced here) s h (definition_within ops.names.same ts tail) (λ b x t k. (k, tt))
    core_ends m depth here e IsDefineValues ts tail at le s h = read_ends m (ValuesWithin (trees_size ts)) here (values_of ops.names.same ts tail) (misplaced here) s h (values_within ops.names.same ts tail) (λ b x t k. (k, tt))
    core_ends m depth here e IsDefineRecordType ts tail at le s h = (h, tt)
    core_ends m depth here e IsDefineSyntax ts tail at le s h = read_ends m (NamedWithin (trees_size ts)) here (syntax_of ts tail) (misplaced here) s h (syntax_within ts tail) (λ b x t k. (k, tt))
    core_ends m depth here e IsLetSyntax ts tail at le s h = read_ends m (MacrosWithin (trees_size ts)) here (local_macros_of ops.names.same ts tail) (let_syntax F ops depth here e) s h (local_macros_within ops.names.same ts tail) (λ b x. let_ends m depth here e b at (omega (arith, x, le)))
    core_ends m depth here e IsLetrecSyntax ts tail at le s h = read_ends m (MacrosWithin (trees_size ts)) here (local_macros_of ops.names.same ts tail) (letrec_syntax F ops depth here e) s h (local_macros_within ops.names.same ts tail) (λ b x. letrec_ends m depth here e b at (omega (arith, x, le)))
    core_ends m depth here e IsCondExpand ts tail at le s h =
        read_ends m (ChosenWithin ops.names.strip ops.known (trees_size ts)) here (chosen_of ops.names.strip ops.known ts tail) (chosen_sequence F ops depth here e) s h (chosen_within ops.names.strip ops.known ts tail) (λ o x. chosen_ends m depth here e (trees_size ts) o at le x)
    core_ends m depth here e IsSyntaxError ts tail at le s h = read_ends m Any here (error_text_of ts tail) (λ text. fails here (SyntaxError text)) s h (error_text_any ts tail) (λ text x t k. (k, tt))
    core_ends m depth here e IsInclude ts tail at le s h = (h, tt)

    instance_ends : (m depth : ℕ) (here : Here) (e : E) (i : Instance A) (t : S) → At turns depth m → Began loud keeps m i t → Ends loud keeps m Any (F depth here e (whole i.tree) (meet_waiting ops e i.met t))
    instance_ends m depth here e i t at b =
        let a = b.one_less in let c = b.within in
        let z = law depth b.left here e (whole i.tree) (meet_waiting ops e i.met t) (omega (arith, a, at)) (omega (arith, c, large)) (met_has loud keeps b.left e i.met t b.has) in
        let x = z.0 in (omega (arith, x, a), z.1)

    use_ended : (m depth : ℕ) (here : Here) (e : E) (k : Target) (o : Option (Transformer E A)) (ts : Trees A) (tail : Tail A) → At turns depth m → Works m (macro_use F ops depth here e k o ts tail)
    use_ended m depth here e k None ts tail at s h = (h, tt)
    use_ended m depth here e k (Some x) ts tail at s h =
        used_then loud keeps m Any (use_of ops here e k x ts tail s) (λ i t. F depth here e (whole i.tree) (meet_waiting ops e i.met t)) (use_ends loud keeps m here e k x ts tail s h) (λ i t b. instance_ends m depth here e i t at b)

    head_ends : (m depth : ℕ) (here : Here) (e : E) (d : Head) (i : Named A) (ts : Trees A) (tail : Tail A) → At turns depth m → suc (trees_size ts) ≤ n → Works m (by_head F ops depth here e d i ts tail)
    head_ends m depth here e (IsCore c) i ts tail at le s h =
        let t = ops.meet (target_of ops e s i.name i.occ) s in core_ends m depth here e c ts tail at (omega (arith, le)) t (has_same loud keeps m s t (keeps.meet (target_of ops e s i.name i.occ) s) h)
    head_ends m depth here e (IsAuxiliary a) i ts tail at le s h = call_ends m depth here e (tree (name i.name i.occ) ts) tail at (omega (arith, le)) s h
    head_ends m depth here e (IsMacro x) i ts tail at le s h = use_ended m depth here e (target_of ops e s i.name i.occ) (ops.transformer s x) ts tail at s h
    head_ends m depth here e IsNone i ts tail at le s h = call_ends m depth here e (tree (name i.name i.occ) ts) tail at (omega (arith, le)) s h

    pub expression_ends : (m depth : ℕ) (here : Here) (e : E) (t : Tree A) → At turns depth m → tree_size t ≤ n → Works m (expression F ops depth here e t)
    expression_ends m depth here e (name i o) at le s h = reference_ends m depth here e (named i o) at s h
    expression_ends m depth here e (atom a o) at le s h = node_ends turns m here 2 depth (λ below. done (Const a)) s at h (λ below b t k. (k, tt))
    expression_ends m depth here e (vector ts o) at le s h = quote_ends m depth here (vector ts o) at s h
    expression_ends m depth here e (list no_trees tail o) at le s h = (h, tt)
    expression_ends m depth here e (list (tree (name i q) ts) tail o) at le s h = head_ends m depth here e (head_of ops e s i) (named i q) ts tail at (omega (arith, le)) s h
    expression_ends m depth here e (list (tree (atom a q) ts) tail o) at le s h = call_ends m depth here e (tree (atom a q) ts) tail at (omega (arith, le)) s h
    expression_ends m depth here e (list (tree (list us end q) ts) tail o) at le s h = call_ends m depth here e (tree (list us end q) ts) tail at (omega (arith, le)) s h
    expression_ends m depth here e (list (tree (vector us q) ts) tail o) at le s h = call_ends m depth here e (tree (vector us q) ts) tail at (omega (arith, le)) s h

  -- ---- the walk

  absurd_turns : (depth m : ℕ) → Below 0 depth m → ⊥
  absurd_turns depth m at = omega arith

  pub expand_ends : (turns : ℕ) → Expands turns (expand ops turns)
  expand_ends zero depth m here e task s at w h = elim (absurd_turns depth m at) [ ]
  expand_ends (suc turns) depth m here e (whole t) s at w h = expression_ends turns (expand ops turns) (expand_ends turns) m depth (here_at ops.plain t here) e t (omega (arith, at)) w s h
  expand_ends (suc turns) depth m here e (body ts) s at w h = body_ends turns (expand ops turns) (expand_ends turns) m depth here e ts turns (omega (arith, at)) (omega (arith, at)) w s h
