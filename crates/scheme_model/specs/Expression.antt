-- The core of an expression (R7RS 4.1, 4.2, 4.3), by the operations of a side. A core node tests its depth as it begins,
-- and then adds its count. The depth is what is left of the budget; the turns bound the recursion alone.
use Rattle.std.specs.Prelude.{ℕ, zero, suc, ◌+◌, List, [], ◌∷◌, ◌++◌, map, Option, Some, None, Result}
use Rattle.scheme_model.specs.Identifiers.{Number}
use Rattle.scheme_model.specs.Ident.{Ident}
use Rattle.scheme_model.specs.Keywords.{CoreKeyword, IsQuote, IsQuasiquote, IsLambda, IsCaseLambda, IsIf, IsSet, IsBegin, IsDefine, IsDefineValues, IsDefineRecordType, IsDefineSyntax, IsLetSyntax, IsLetrecSyntax, IsCondExpand, IsSyntaxError, IsInclude, IsSyntaxRules, IsUnquote, IsUnquoteSplicing, IsOther}
use Rattle.scheme_model.specs.Trees.{Tree, name, atom, list, vector, Trees, no_trees, tree, Tail, proper, dotted, map_tree}
use Rattle.scheme_model.specs.Measures.{tree_size}
use Rattle.scheme_model.specs.ExpansionFaults.{Named, named, BadForm, BadPlace, KeywordAsValue, DepthBudget, SyntaxError, IncludeRefused, OutOfTurns, ◌>>◌}
use Rattle.scheme_model.specs.Meaning.{Meaning, Local, Global, Head, IsCore, IsAuxiliary, IsMacro, IsNone}
use Rattle.scheme_model.specs.Shapes.{Clause, lambda_of, case_lambda_of, if_of, named_tree_of, syntax_of, some_of, one_of, error_text_of, definition_of, values_of, LocalMacros, local_macros_of}
use Rattle.scheme_model.specs.Requirements.{chosen_of, libraries_in}
use Rattle.scheme_model.specs.Quasiquote.{Mark, Nested, Unquoted, Spliced, quasi_of, marks_in, Pieces}
use Rattle.scheme_model.specs.RulesShape.{Rules, rules_map}
use Rattle.scheme_model.specs.Leaves.{leaves_of}
use Rattle.scheme_model.specs.Cores.{Target, Bound, LocalNumber, Definition, Binder, Binders, MacroDef, Core, Ref, Const, Quote, Quasi, Lambda, CaseLambda, If, Set, Call, Body, LetSyntax, Cores, no_cores, core, Clauses, no_clauses, clause, Parts, no_parts, part, Part, Expression as expression_part, Define as define_part, Values as values_part, Fields as fields_part, Syntax as syntax_part, outside}
use Rattle.scheme_model.specs.Steps.{Broken, Step, ◌>>=◌, done, fails}
use Rattle.scheme_model.specs.Order.{Here, Item, Expression, Value, Function, Assigned, AssignedFunction, ValuesOf, Record, Macro, Left, Pass, Region, Transformer, Asked, Meant, Headed, RulesOf, Library, Ops, target_of, head_of, here_at, forms_at, counting, given, use_of, meet_waiting, meet_all, RulesParts, rules_parts_of, rules_parts, rules_at, run}

-- what is expanded: an expression, or the forms of a body
pub data Task (A : Type 0) : Type 0 where
  whole : Tree A → Task A
  body : Trees A → Task A

-- the core of a task in an environment, where so much depth is left, inside a form read from the text
abbrev pub Expander : Type 0 → Type 0 → Type 0 → Type 0
Expander E A S = ℕ → Here → E → Task A → Step S Core

-- a node of so many nodes begins
abbrev pub node : {E A L S B : Type 0} → Ops E A L S → Here → ℕ → ℕ → (ℕ → Step S B) → Step S B
node ops here n zero parts s = fails here DepthBudget s
node ops here n (suc depth) parts s = counting ops here n s >>= λ u. parts depth

-- each tree, left to right
abbrev pub each : {S A : Type 0} → (Tree A → Step S Core) → Trees A → Step S Cores
each f no_trees s = done no_cores s
each f (tree t ts) s = f t s >>= λ c. λ t1. each f ts t1 >>= λ cs. done (core c cs)

abbrev pub each_of : {S A : Type 0} → (Tree A → Step S Core) → List (Tree A) → Step S Cores
each_of f [] s = done no_cores s
each_of f (t ∷ ts) s = f t s >>= λ c. λ t1. each_of f ts t1 >>= λ cs. done (core c cs)

-- ---- binders

-- each name is bound throughout the region, and then f works there
abbrev pub bound : {E A L S B : Type 0} → Ops E A L S → (E → Trees A → Step S B) → List (Named A) → E → Trees A → Step S (List Binder × B)
bound ops f [] e ts s = f e ts s >>= λ b. done ([], b)
bound ops f (n ∷ ns) e ts s =
    let r = ops.bind n.name e ts s in
    bound ops f ns r.env r.trees r.state >>= λ q. done (record { bound = LocalNumber (ops.next_local s); ident = ops.plain n.name; occ = n.occ } ∷ q.0, q.1)

abbrev pub procedure : {E A L S : Type 0} → Expander E A S → Ops E A L S → ℕ → Here → E → Clause A → Step S (Binders × Core)
procedure f ops depth here e c s =
    bound ops (λ d ts. f depth here d (body ts)) c.formals.names e c.body s >>= λ q. done (record { names = q.0; rest = c.formals.rest }, q.1)

abbrev pub lambda : {E A L S : Type 0} → Expander E A S → Ops E A L S → ℕ → Here → E → Clause A → Step S Core
lambda f ops depth here e c s = node ops here 1 depth (λ below t. procedure f ops below here e c t >>= λ q. done (Lambda q.0 q.1)) s

abbrev pub clauses : {E A L S : Type 0} → Expander E A S → Ops E A L S → ℕ → Here → E → List (Clause A) → Step S Clauses
clauses f ops depth here e [] s = done no_clauses s
clauses f ops depth here e (c ∷ cs) s = procedure f ops depth here e c s >>= λ q t. clauses f ops depth here e cs t >>= λ more. done (clause q.0 q.1 more)

-- ---- macro definitions

abbrev pub meaning_of : Bound → Ident → Meaning
meaning_of (LocalNumber v) i = Local v
meaning_of (Definition u n) i = Global u i

abbrev pub no_rules : Rules Ident
no_rules = record { ellipsis = None; literals = []; rules = [] }

-- a macro with its leaves, once all definitions where it is defined stand
abbrev pub macro_with : {E A L S : Type 0} → Ops E A L S → S → Binder → Option (Transformer E A) → MacroDef
macro_with ops s b None = record { binder = b; rules = no_rules; leaves = [] }
macro_with ops s b (Some m) = record {
  binder = b;
  rules = rules_map ops.plain m.rules;
  leaves = map (λ l. record { target = target_of ops m.env s l.leaf.name l.leaf.occ; literal = l.literal }) (leaves_of ops.names m.rules);
}

abbrev pub macro_def : {E A L S : Type 0} → Ops E A L S → S → Binder → MacroDef
macro_def ops s b = macro_with ops s b (ops.transformer s (meaning_of b.bound b.ident))

-- what it asks
abbrev pub leaves_asked : {E A L S : Type 0} → Ops E A L S → Option (Transformer E A) → List (Asked E A)
leaves_asked ops None = []
leaves_asked ops (Some m) = map (λ l. Meant m.env l.leaf.name) (leaves_of ops.names m.rules)

abbrev pub macro_asked : {E A L S : Type 0} → Ops E A L S → S → Binder → List (Asked E A)
macro_asked ops s b = RulesOf (meaning_of b.bound b.ident) ∷ leaves_asked ops (ops.transformer s (meaning_of b.bound b.ident))

-- ---- bodies (R7RS 5.3.2)

-- a later definition of a program's variable, read as an assignment
abbrev pub assignment : {E A L S : Type 0} → Ops E A L S → ℕ → Here → E → Named A → (ℕ → Step S Core) → Step S Core
assignment ops depth here e n value s = node ops here 1 depth (λ below t. value below (ops.ask (Meant e n.name ∷ []) t) >>= λ c. done (Set (target_of ops e t n.name n.occ) c)) s

-- what was set aside, expanded
abbrev pub item_part : {E A L S : Type 0} → Expander E A S → Ops E A L S → ℕ → E → Item A → Step S Part
item_part f ops depth e (Expression form) s = f depth form.here e (whole form.tree) s >>= λ c. done (expression_part c)
item_part f ops depth e (Value b form) s = f depth form.here e (whole form.tree) s >>= λ c. done (define_part b c)
item_part f ops depth e (Function b here c) s = lambda f ops depth here e c s >>= λ l. done (define_part b l)
item_part f ops depth e (Assigned n form) s = assignment ops depth form.here e n (λ below. f below form.here e (whole form.tree)) s >>= λ c. done (expression_part c)
item_part f ops depth e (AssignedFunction n here c) s = assignment ops depth here e n (λ below. lambda f ops below here e c) s >>= λ l. done (expression_part l)
item_part f ops depth e (ValuesOf bs form) s = f depth form.here e (whole form.tree) s >>= λ c. done (values_part bs c)
item_part f ops depth e (Record r) s = done (fields_part r) s
item_part f ops depth e (Macro b here) s = done (syntax_part (macro_def ops s b)) (ops.ask (macro_asked ops s b) s)

abbrev pub parts : {A S : Type 0} → (Item A → Step S Part) → List (Item A) → Step S Parts
parts f [] s = done no_parts s
parts f (i ∷ is) s = f i s >>= λ p. λ t. parts f is t >>= λ ps. done (part p ps)

abbrev pub left_of : {A L S : Type 0} → Pass A L × S → Result (Left A) Broken × S
left_of q = (q.0.left, q.1)

-- the forms; their macro uses are met, and what was set aside is expanded
abbrev pub body_in : {E A L S : Type 0} → Ops E A L S → ℕ → (E → Item A → Step S Part) → Here → Region E A S → Result Core Broken × S
body_in ops turns f here r =
    left_of (run ops turns r.env (record { todo = forms_at here r.trees; aside = []; uses = []; notes = [] }) r.state) >>=
    λ l t. parts (f r.env) l.items (meet_all ops r.env l.uses t) >>= λ ps. done (Body ps)

abbrev pub body_core : {E A L S : Type 0} → Expander E A S → Ops E A L S → ℕ → ℕ → Here → E → Trees A → Step S Core
body_core f ops turns depth here e ts s = node ops here 1 depth (λ below t. body_in ops turns (item_part f ops below) here (ops.enter e ts t)) s

-- expressions alone
abbrev pub expressions : {S A : Type 0} → (Tree A → Step S Core) → Trees A → Step S Parts
expressions f no_trees s = done no_parts s
expressions f (tree t ts) s = f t s >>= λ c. λ t1. expressions f ts t1 >>= λ ps. done (part (expression_part c) ps)

abbrev pub sequence : {E A L S : Type 0} → Expander E A S → Ops E A L S → ℕ → Here → E → Trees A → Step S Core
sequence f ops depth here e ts s = node ops here 1 depth (λ below t. expressions (λ u. f below here e (whole u)) ts t >>= λ ps. done (Body ps)) s

-- ---- local macros (R7RS 4.3.1)

-- the heads of all rules, in order
abbrev pub heads : {E A L S : Type 0} → Ops E A L S → Here → E → Trees A → Step S (List (RulesParts A))
heads ops here e no_trees s = done [] s
heads ops here e (tree t ts) s = rules_parts ops here e (rules_parts_of t) s >>= λ r t1. heads ops here e ts t1 >>= λ rs. done (r ∷ rs)

-- macro by macro, counted and checked, and kept under its number
abbrev pub keep_all : {E A L S : Type 0} → Ops E A L S → Here → E → List Number → Trees A → List (RulesParts A) → Step S (Unit {0})
keep_all ops here e [] ts rs s = done tt s
keep_all ops here e (v ∷ vs) no_trees rs s = done tt s
keep_all ops here e (v ∷ vs) (tree t ts) [] s = done tt s
keep_all ops here e (v ∷ vs) (tree t ts) (r ∷ rs) s = rules_at ops here t r s >>= λ rules t1. keep_all ops here e vs ts rs (ops.keep v rules e t1)

-- so many numbers of locals, from one on
abbrev pub numbers : {A : Type 0} → Number → List A → List Number
numbers v [] = []
numbers v (n ∷ ns) = v ∷ numbers (record { unit = v.unit; form = v.form; count = suc v.count }) ns

-- the macros of these binders
abbrev pub local_defs : {E A L S : Type 0} → Ops E A L S → S → List Number → List (Named A) → List MacroDef
local_defs ops s [] ns = []
local_defs ops s (v ∷ vs) [] = []
local_defs ops s (v ∷ vs) (n ∷ ns) = macro_def ops s (record { bound = LocalNumber v; ident = ops.plain n.name; occ = n.occ }) ∷ local_defs ops s vs ns

-- what they ask
abbrev pub locals_asked : {E A L S : Type 0} → Ops E A L S → S → List Number → List (Named A) → List (Asked E A)
locals_asked ops s [] ns = []
locals_asked ops s (v ∷ vs) [] = []
locals_asked ops s (v ∷ vs) (n ∷ ns) = macro_asked ops s (record { bound = LocalNumber v; ident = ops.plain n.name; occ = n.occ }) ++ locals_asked ops s vs ns

-- the macros are kept and their leaves found, and then the body is worked; the rules are read in an environment of their own
abbrev pub local_macros : {E A L S : Type 0} → Expander E A S → Ops E A L S → ℕ → Here → List Number → List (Named A) → E → Trees A → E → Trees A → Step S Core
local_macros f ops depth here vs ns d rules e ts s =
    heads ops here d rules s >>= λ rs.
    node ops here 1 depth (λ below t. keep_all ops here d vs rules rs t >>= λ u t1. f below here e (body ts) (ops.ask (locals_asked ops t1 vs ns) t1) >>= λ c. done (LetSyntax (local_defs ops t1 vs ns) c))

-- the rules are the first tree of the region
abbrev pub recursive : {E A L S : Type 0} → Expander E A S → Ops E A L S → ℕ → Here → List Number → List (Named A) → E → Trees A → Step S Core
recursive f ops depth here vs ns e no_trees s = fails here BadForm s
recursive f ops depth here vs ns e (tree (name i o) ts) s = fails here BadForm s
recursive f ops depth here vs ns e (tree (atom a o) ts) s = fails here BadForm s
recursive f ops depth here vs ns e (tree (vector us o) ts) s = fails here BadForm s
recursive f ops depth here vs ns e (tree (list rules tail o) ts) s = local_macros f ops depth here vs ns e rules e ts s

abbrev pub let_syntax : {E A L S : Type 0} → Expander E A S → Ops E A L S → ℕ → Here → E → LocalMacros A → Step S Core
let_syntax f ops depth here e m s =
    bound ops (λ d ts. local_macros f ops depth here (numbers (ops.next_local s) m.names) m.names e m.rules d ts) m.names e m.body s >>= λ q. done q.1

abbrev pub letrec_syntax : {E A L S : Type 0} → Expander E A S → Ops E A L S → ℕ → Here → E → LocalMacros A → Step S Core
letrec_syntax f ops depth here e m s =
    bound ops (recursive f ops depth here (numbers (ops.next_local s) m.names) m.names) m.names e (tree (list m.rules proper None) m.body) s >>= λ q. done q.1

-- ---- other core forms

abbrev pub mark_of : Head → Option Mark
mark_of (IsCore IsQuote) = None
mark_of (IsCore IsQuasiquote) = Some Nested
mark_of (IsCore IsLambda) = None
mark_of (IsCore IsCaseLambda) = None
mark_of (IsCore IsIf) = None
mark_of (IsCore IsSet) = None
mark_of (IsCore IsBegin) = None
mark_of (IsCore IsDefine) = None
mark_of (IsCore IsDefineValues) = None
mark_of (IsCore IsDefineRecordType) = None
mark_of (IsCore IsDefineSyntax) = None
mark_of (IsCore IsLetSyntax) = None
mark_of (IsCore IsLetrecSyntax) = None
mark_of (IsCore IsCondExpand) = None
mark_of (IsCore IsSyntaxError) = None
mark_of (IsCore IsInclude) = None
mark_of (IsAuxiliary IsSyntaxRules) = None
mark_of (IsAuxiliary IsUnquote) = Some Unquoted
mark_of (IsAuxiliary IsUnquoteSplicing) = Some Spliced
mark_of (IsAuxiliary IsOther) = None
mark_of (IsMacro m) = None
mark_of IsNone = None

-- the symbols of a datum with holes
abbrev pub symbol_or_hole : {A : Type 0} → (A → List ℕ) → Option A → Option (List ℕ)
symbol_or_hole strip None = None
symbol_or_hole strip (Some i) = Some (strip i)

abbrev pub quasi : {E A L S : Type 0} → Expander E A S → Ops E A L S → ℕ → Here → E → Pieces A → Step S Core
quasi f ops depth here e p s =
    node ops here (1 + outside p.datum) depth (λ below t. each_of (λ u. f below here e (whole u)) p.holes t >>= λ cs. done (Quasi (map_tree (symbol_or_hole ops.names.strip) p.datum) cs)) s

abbrev pub quote : {E A L S : Type 0} → Ops E A L S → ℕ → Here → Tree A → Step S Core
quote ops depth here t s = node ops here (1 + tree_size t) depth (λ below. done (Quote (map_tree ops.names.strip t))) s

-- a variable that is assigned isn't a keyword
abbrev pub unless_keyword : {E A L S B : Type 0} → Ops E A L S → Here → Head → Named A → Step S B → Step S B
unless_keyword ops here (IsCore k) n go s = fails here (KeywordAsValue (named (ops.plain n.name) n.occ)) s
unless_keyword ops here (IsAuxiliary a) n go s = fails here (KeywordAsValue (named (ops.plain n.name) n.occ)) s
unless_keyword ops here (IsMacro m) n go s = fails here (KeywordAsValue (named (ops.plain n.name) n.occ)) s
unless_keyword ops here IsNone n go s = go s

abbrev pub set : {E A L S : Type 0} → Expander E A S → Ops E A L S → ℕ → Here → E → Named A × Tree A → Step S Core
set f ops depth here e p s =
    unless_keyword ops here (head_of ops e s p.0.name) p.0 (node ops here 1 depth (λ below t. f below here e (whole p.1) t >>= λ c. done (Set (target_of ops e t p.0.name p.0.occ) c))) (ops.ask (Headed e p.0.name ∷ []) s)

abbrev pub reference : {E A L S : Type 0} → Ops E A L S → ℕ → Here → E → Named A → Step S Core
reference ops depth here e n s = unless_keyword ops here (head_of ops e s n.name) n (node ops here 1 depth (λ below t. done (Ref (target_of ops e t n.name n.occ)) t)) (ops.ask (Headed e n.name ∷ []) s)

abbrev pub call : {E A L S : Type 0} → Expander E A S → Ops E A L S → ℕ → Here → E → Trees A → Tail A → Step S Core
call f ops depth here e ts (dotted u) s = fails here BadForm s
call f ops depth here e ts proper s = node ops here 1 depth (λ below t. each (λ u. f below here e (whole u)) ts t >>= λ cs. done (Call cs)) s

-- a definition where an expression must stand
abbrev pub misplaced : {S B C : Type 0} → Here → B → Step S C
misplaced here b s = fails here BadPlace s

-- the chosen forms of `cond-expand`
abbrev pub chosen_sequence : {E A L S : Type 0} → Expander E A S → Ops E A L S → ℕ → Here → E → Option (Trees A) → Step S Core
chosen_sequence f ops depth here e None s = fails here BadForm s
chosen_sequence f ops depth here e (Some no_trees) s = fails here BadForm s
chosen_sequence f ops depth here e (Some (tree t ts)) s = sequence f ops depth here e (tree t ts) s

-- a core form as an expression
abbrev pub core_form : {E A L S : Type 0} → Expander E A S → Ops E A L S → ℕ → Here → E → CoreKeyword → Trees A → Tail A → Step S Core
core_form f ops depth here e IsQuote ts tail s = given ops.plain here (one_of ts tail) s >>= quote ops depth here
core_form f ops depth here e IsQuasiquote ts tail s =
    given ops.plain here (one_of ts tail >> quasi_of (λ i. mark_of (head_of ops e s i))) (ops.ask (map (Headed e) (marks_in (λ i. mark_of (head_of ops e s i)) ts tail)) s) >>= quasi f ops depth here e
core_form f ops depth here e IsLambda ts tail s = given ops.plain here (lambda_of ops.names.same ts tail) s >>= lambda f ops depth here e
core_form f ops depth here e IsCaseLambda ts tail s =
    given ops.plain here (case_lambda_of ops.names.same ts tail) s >>= λ cs. node ops here 1 depth (λ below t. clauses f ops below here e cs t >>= λ more. done (CaseLambda more))
core_form f ops depth here e IsIf ts tail s =
    given ops.plain here (if_of ts tail) s >>= λ us. node ops here 1 depth (λ below t. each (λ u. f below here e (whole u)) us t >>= λ cs. done (If cs))
core_form f ops depth here e IsSet ts tail s = given ops.plain here (named_tree_of ts tail) s >>= set f ops depth here e
core_form f ops depth here e IsBegin ts tail s = given ops.plain here (some_of ts tail) s >>= sequence f ops depth here e
core_form f ops depth here e IsDefine ts tail s = given ops.plain here (definition_of ops.names.same ts tail) s >>= misplaced here
core_form f ops depth here e IsDefineValues ts tail s = given ops.plain here (values_of ops.names.same ts tail) s >>= misplaced here
core_form f ops depth here e IsDefineRecordType ts tail s = fails here BadPlace s
core_form f ops depth here e IsDefineSyntax ts tail s = given ops.plain here (syntax_of ts tail) s >>= misplaced here
core_form f ops depth here e IsLetSyntax ts tail s = given ops.plain here (local_macros_of ops.names.same ts tail) s >>= let_syntax f ops depth here e
core_form f ops depth here e IsLetrecSyntax ts tail s = given ops.plain here (local_macros_of ops.names.same ts tail) s >>= letrec_syntax f ops depth here e
core_form f ops depth here e IsCondExpand ts tail s = given ops.plain here (chosen_of ops.names.strip ops.known ts tail) (ops.ask (map Library (libraries_in ops.names.strip ts tail)) s) >>= chosen_sequence f ops depth here e
core_form f ops depth here e IsSyntaxError ts tail s = given ops.plain here (error_text_of ts tail) s >>= λ text. fails here (SyntaxError text)
core_form f ops depth here e IsInclude ts tail s = fails here IncludeRefused s

abbrev pub macro_use : {E A L S : Type 0} → Expander E A S → Ops E A L S → ℕ → Here → E → Target → Option (Transformer E A) → Trees A → Tail A → Step S Core
macro_use f ops depth here e k None ts tail s = fails here BadForm s
macro_use f ops depth here e k (Some m) ts tail s = use_of ops here e k m ts tail s >>= λ i t. f depth here e (whole i.tree) (meet_waiting ops e i.met t)

abbrev pub by_head : {E A L S : Type 0} → Expander E A S → Ops E A L S → ℕ → Here → E → Head → Named A → Trees A → Tail A → Step S Core
by_head f ops depth here e (IsCore c) n ts tail s = core_form f ops depth here e c ts tail (ops.meet (target_of ops e s n.name n.occ) (ops.ask (Headed e n.name ∷ []) s))
by_head f ops depth here e (IsAuxiliary a) n ts tail s = call f ops depth here e (tree (name n.name n.occ) ts) tail (ops.ask (Headed e n.name ∷ []) s)
by_head f ops depth here e (IsMacro m) n ts tail s = macro_use f ops depth here e (target_of ops e s n.name n.occ) (ops.transformer (ops.ask (Headed e n.name ∷ []) s) m) ts tail (ops.ask (RulesOf m ∷ []) (ops.ask (Headed e n.name ∷ []) s))
by_head f ops depth here e IsNone n ts tail s = call f ops depth here e (tree (name n.name n.occ) ts) tail (ops.ask (Headed e n.name ∷ []) s)

abbrev pub expression : {E A L S : Type 0} → Expander E A S → Ops E A L S → ℕ → Here → E → Tree A → Step S Core
expression f ops depth here e (name i o) s = reference ops depth here e (named i o) s
expression f ops depth here e (atom a o) s = node ops here 2 depth (λ below. done (Const a)) s
expression f ops depth here e (vector ts o) s = quote ops depth here (vector ts o) s
expression f ops depth here e (list no_trees tail o) s = fails here BadForm s
expression f ops depth here e (list (tree (name i q) ts) tail o) s = by_head f ops depth here e (head_of ops e s i) (named i q) ts tail s
expression f ops depth here e (list (tree (atom a q) ts) tail o) s = call f ops depth here e (tree (atom a q) ts) tail s
expression f ops depth here e (list (tree (list us end q) ts) tail o) s = call f ops depth here e (tree (list us end q) ts) tail s
expression f ops depth here e (list (tree (vector us q) ts) tail o) s = call f ops depth here e (tree (vector us q) ts) tail s

abbrev pub expand : {E A L S : Type 0} → Ops E A L S → ℕ → Expander E A S
expand ops zero depth here e task s = fails here OutOfTurns s
expand ops (suc turns) depth here e (whole t) s = expression (expand ops turns) ops depth (here_at ops.plain t here) e t s
expand ops (suc turns) depth here e (body ts) s = body_core (expand ops turns) ops turns depth here e ts s
