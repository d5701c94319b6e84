-- The order of expansion (R7RS 4.3, 5.3): how the forms of a body, or those of a unit, are gone through, over what a side
-- does with its identifiers. The definition's side substitutes; the code's looks names up in scopes.
use Rattle.std.specs.Prelude.{ℕ, zero, suc, ◌+◌, ◌-◌, nat_le, nat_lt, List, [], ◌∷◌, ◌++◌, map, Bool, true, false, Option, Some, None, Result, Ok, Err, if◌then◌else◌}
use Rattle.scheme_model.specs.declared.Occ.{Occ}
use Rattle.scheme_model.specs.Identifiers.{Number}
use Rattle.scheme_model.specs.Ident.{Ident, Written, Inserted}
use Rattle.scheme_model.specs.Keywords.{CoreKeyword, IsQuote, IsQuasiquote, IsLambda, IsCaseLambda, IsIf, IsSet, IsBegin, IsDefine, IsDefineValues, IsDefineRecordType, IsDefineSyntax, IsLetSyntax, IsLetrecSyntax, IsCondExpand, IsSyntaxError, IsInclude, IsSyntaxRules, IsUnquote, IsUnquoteSplicing, IsOther}
use Rattle.scheme_model.specs.Trees.{Tree, name, atom, list, vector, Trees, no_trees, tree, Tail, map_tree}
use Rattle.scheme_model.specs.Measures.{tree_size}
use Rattle.scheme_model.specs.ExpansionFaults.{Named, named, named_map, Fault, fault_map, NoRule, BadForm, UseBudget, NodeBudget, OutOfTurns}
use Rattle.scheme_model.specs.Meaning.{Meaning, same_meaning, Head, IsCore, IsAuxiliary, IsMacro, IsNone, is_keyword, head_as}
use Rattle.scheme_model.specs.Shapes.{Formals, Clause, DefinitionShape, Variable, Procedure, definition_of, values_of, FieldShape, RecordShape, record_of, syntax_of, proper_of}
use Rattle.scheme_model.specs.Requirements.{Known, LibraryName, chosen_of, libraries_in}
use Rattle.scheme_model.specs.RulesShape.{Rules, Names, rules_of, role_of, dots_of}
use Rattle.scheme_model.specs.Matching.{Chosen, matcher, first_match, compared}
use Rattle.scheme_model.specs.Building.{build}
use Rattle.scheme_model.specs.Cores.{Target, Bound, LocalNumber, Binder, Binders, RecordType, MacroUse}
use Rattle.scheme_model.specs.Steps.{Broken, Step, ◌>>=◌, done, fails}

-- the place of the innermost form that was read from the text
abbrev pub Here : Type 0
Here = Option Occ

-- a form with the place that a fault in it has, where it has none itself
pub record Form (A : Type 0) : Type 0 where
  pub here : Here
  pub tree : Tree A

-- ---- what was set aside

pub data Item (A : Type 0) : Type 0 where
  Expression : Form A → Item A
  Value : Binder → Form A → Item A
  Function : Binder → Here → Clause A → Item A
  -- a later definition of a program's variable
  Assigned : Named A → Form A → Item A
  AssignedFunction : Named A → Here → Clause A → Item A
  ValuesOf : Binders → Form A → Item A
  Record : RecordType → Item A
  Macro : Binder → Here → Item A

-- a look-up of a head, or of the head of rules, and whether a keyword was the answer; a comparison with a literal, and
-- whether it held
pub data Note (L : Type 0) : Type 0 where
  LookedUp : L → (head : Bool) → (keyword : Bool) → Note L
  Compared : L → L → (held : Bool) → Note L

-- a macro use that waits to be met: its keyword, and the leaves of the form that met a literal, which mean what they do once all
-- definitions of their place stand
pub record WaitingUse (A : Type 0) : Type 0 where
  pub keyword : Target
  pub literals : List (Named A)

-- the forms that are left, what was set aside, the macro uses that wait, and what was looked up and compared
pub record Pending (A L : Type 0) : Type 0 where
  pub todo : List (Form A)
  pub aside : List (Item A)
  pub uses : List (WaitingUse A)
  pub notes : List (Note L)

-- what is left once forms were gone through: the macro uses that wait, and what was set aside
pub record Left (A : Type 0) : Type 0 where
  pub uses : List (WaitingUse A)
  pub items : List (Item A)

-- what the forms of a body, or a form of a unit, came to: the notes, and what is left
pub record Pass (A L : Type 0) : Type 0 where
  pub notes : List (Note L)
  pub left : Result (Left A) Broken

-- a definition was made: what is pending reads so by then, and each name reads so
pub record Renamed (A L : Type 0) : Type 0 where
  pub pending : Pending A L
  pub rename : A → A

-- ---- what a side does

-- what a form has counted, and the keywords and macro uses that it met, latest first
pub record Counted : Type 0 where
  pub locals : ℕ
  pub uses : ℕ
  pub nodes : ℕ
  pub keywords : List Target
  pub met : List MacroUse

-- trees that are read in an environment of their own
pub record Region (E A S : Type 0) : Type 0 where
  pub env : E
  pub trees : Trees A
  pub state : S

-- a macro: where it was defined, and its rules
pub record Transformer (E A : Type 0) : Type 0 where
  pub env : E
  pub rules : Rules A

-- what is asked of what is around a form: what an identifier means; of one that is a head, or a variable that mustn't be a keyword, also
-- whether it is a keyword; the rules of a macro; whether a literal and an identifier mean the same; whether a definition of an
-- identifier is an assignment; whether there is a library
pub data Asked (E A : Type 0) : Type 0 where
  Meant : E → A → Asked E A
  Headed : E → A → Asked E A
  RulesOf : Meaning → Asked E A
  Alike : E → A → E → A → Asked E A
  Assigns : E → A → Asked E A
  Library : LibraryName → Asked E A

-- E are environments, A identifiers, L what a note keeps of one, S states
pub record Ops (E A L S : Type 0) : Type 0 where
  pub names : Names A
  -- the identifier as it came about
  pub plain : A → Ident
  pub insert : A → Number → A
  pub place : E → A → L
  pub means : E → S → A → Meaning
  pub transformer : S → Meaning → Option (Transformer E A)
  pub known : Known
  -- these are asked
  pub ask : List (Asked E A) → S → S
  -- what the unit or the body defines as a variable, where a later definition of it is an assignment
  pub is_assigned : E → S → A → Bool
  pub counted : S → Counted
  -- work goes to this form, and goes on with its counts
  pub turn : ℕ → S → S
  pub spend : ℕ → S → S
  pub meet : Target → S → S
  pub meet_use : MacroUse → S → S
  -- the number of the next macro use; one begins, of a macro that was defined there
  pub next_use : S → Number
  pub begin_use : E → S → S
  -- the number of the next local; it is taken
  pub next_local : S → Number
  pub take_local : S → S
  -- what the next definition binds
  pub next_bound : E → S → Bound
  -- an identifier is bound to the next local throughout a region
  pub bind : A → E → Trees A → S → Region E A S
  -- the local is a macro
  pub keep : Number → Rules A → E → S → S
  -- a body is entered
  pub enter : E → Trees A → S → Region E A S
  -- a definition in a unit or a body, of a macro where there are rules
  pub define : Named A → Option (Rules A) → E → Pending A L → S → Result (Renamed A L) (Fault Ident) × S

-- ---- words for the steps

abbrev pub target_of : {E A L S : Type 0} → Ops E A L S → E → S → A → Option Occ → Target
target_of ops e s i o = record { meaning = ops.means e s i; ident = ops.plain i; occ = o }

abbrev pub is_some : {A : Type 0} → Option A → Bool
is_some None = false
is_some (Some a) = true

abbrev pub head_of : {E A L S : Type 0} → Ops E A L S → E → S → A → Head
head_of ops e s i = head_as (λ m. is_some (ops.transformer s m)) (ops.means e s i)

-- a list, a vector or an atom with a place was read; so was a name, but for one that a use inserted
abbrev pub read_name : Ident → Option Occ → Here → Here
read_name (Written u x) (Some o) here = Some o
read_name (Written u x) None here = here
read_name (Inserted i k) o here = here

abbrev pub or_here : Option Occ → Here → Here
or_here (Some o) here = Some o
or_here None here = here

abbrev pub here_at : {A : Type 0} → (A → Ident) → Tree A → Here → Here
here_at plain (name i o) here = read_name (plain i) o here
here_at plain (atom a o) here = or_here o here
here_at plain (list ts tail o) here = or_here o here
here_at plain (vector ts o) here = or_here o here

abbrev pub forms_at : {A : Type 0} → Here → Trees A → List (Form A)
forms_at here no_trees = []
forms_at here (tree t ts) = record { here = here; tree = t } ∷ forms_at here ts

-- the most macro uses of a form, and the most nodes
abbrev pub max_uses : ℕ
max_uses = 10000

abbrev pub max_nodes : ℕ
max_nodes = 200000

-- nodes are counted, within the budget
abbrev pub counting : {E A L S : Type 0} → Ops E A L S → Here → ℕ → Step S (Unit {0})
counting ops here n s = if nat_le ((ops.counted s).nodes + n) max_nodes then done tt (ops.spend n s) else fails here NodeBudget s

-- a shape that was read, with the identifiers of its fault as they came about
abbrev pub given : {S A B : Type 0} → (A → Ident) → Here → Result B (Fault A) → Step S B
given plain here (Ok b) s = done b s
given plain here (Err e) s = fails here (fault_map plain e) s

abbrev pub told : {S B : Type 0} → Here → Result B (Fault Ident) × S → Result B Broken × S
told here (Ok b, s) = done b s
told here (Err e, s) = fails here e s

-- ---- macro uses

-- the budget has a use left
abbrev pub has_use : {E A L S : Type 0} → Ops E A L S → S → Bool
has_use ops s = nat_lt (ops.counted s).uses max_uses

-- the comparisons of a use that begins, each with whether it holds
abbrev pub comparisons : {E A L S : Type 0} → Ops E A L S → E → Transformer E A → Trees A → Tail A → S → List (Note L)
comparisons ops e m ts tail s =
    if has_use ops s then
    map (λ q. Compared (ops.place m.env q.0) (ops.place e q.1) (same_meaning (ops.means m.env s q.0) (ops.means e s q.1)))
    (compared (role_of ops.names m.rules) (dots_of ops.names m.rules) m.rules.rules ts tail)
    else []

-- what they ask
abbrev pub compared_asked : {E A L S : Type 0} → Ops E A L S → E → Transformer E A → Trees A → Tail A → List (Asked E A)
compared_asked ops e m ts tail = map (λ q. Alike m.env q.0 e q.1) (compared (role_of ops.names m.rules) (dots_of ops.names m.rules) m.rules.rules ts tail)

-- the instance of the template, and the use
pub record Instance (A : Type 0) : Type 0 where
  pub tree : Tree A
  pub met : WaitingUse A

abbrev pub used : {E A L S : Type 0} → Ops E A L S → Here → Target → Transformer E A → Number → Option (Chosen A A) → Step S (Instance A)
used ops here keyword m k None s = fails here (NoRule (named keyword.ident keyword.occ)) s
used ops here keyword m k (Some c) s =
    given ops.plain here (build ops.names m.rules (λ i. ops.insert i k) c.rule.template c.match.bindings (max_nodes - (ops.counted s).nodes)) s >>= λ b t.
    done (record { tree = b.value; met = record { keyword = keyword; literals = c.match.met } }) (ops.spend b.count t)

-- one use of a macro, where the budget has one left
abbrev pub use_of : {E A L S : Type 0} → Ops E A L S → Here → E → Target → Transformer E A → Trees A → Tail A → Step S (Instance A)
use_of ops here e keyword m ts tail s =
    if has_use ops s then
    used ops here keyword m (ops.next_use s) (first_match (matcher ops.names m.rules (λ l j. same_meaning (ops.means m.env s l) (ops.means e s j))) m.rules.rules ts tail) (ops.begin_use m.env (ops.ask (compared_asked ops e m ts tail) s))
    else fails here UseBudget s

-- a use is met, with what its literals mean by now
abbrev pub meet_waiting : {E A L S : Type 0} → Ops E A L S → E → WaitingUse A → S → S
meet_waiting ops e u s = ops.meet_use (record { keyword = u.keyword; literals = map (λ n. target_of ops e s n.name n.occ) u.literals }) (ops.ask (map (λ n. Meant e n.name) u.literals) s)

abbrev pub meet_all : {E A L S : Type 0} → Ops E A L S → E → List (WaitingUse A) → S → S
meet_all ops e [] s = s
meet_all ops e (u ∷ us) s = meet_all ops e us (meet_waiting ops e u s)

-- ---- definitions

abbrev pub binder_at : {E A L S : Type 0} → Ops E A L S → E → S → Named A → Binder
binder_at ops e s n = record { bound = ops.next_bound e s; ident = ops.plain n.name; occ = n.occ }

abbrev pub put : {A L : Type 0} → Item A → Pending A L → Pending A L
put t p = record p { aside = p.aside ++ t ∷ [] }

abbrev pub waiting : {A L : Type 0} → WaitingUse A → Pending A L → Pending A L
waiting u p = record p { uses = p.uses ++ u ∷ [] }

abbrev pub noted : {A L : Type 0} → List (Note L) → Pending A L → Pending A L
noted ns p = record p { notes = ns ++ p.notes }

abbrev pub first : {A L : Type 0} → List (Form A) → Pending A L → Pending A L
first ts p = record p { todo = ts ++ p.todo }

-- names are defined one after another, each a variable that reads as the definitions before it make it; these have made f of names
abbrev pub define_all : {E A L S : Type 0} → Ops E A L S → Here → E → (A → A) → List (Named A) → Pending A L → Step S (List Binder × Renamed A L)
define_all ops here e f [] p s = done ([], record { pending = p; rename = f }) s
define_all ops here e f (n ∷ ns) p s =
    told here (ops.define (named_map f n) None e p s) >>= λ d t. define_all ops here e (λ i. d.rename (f i)) ns d.pending t >>= λ more.
    done (binder_at ops e s (named_map f n) ∷ more.0, more.1)

abbrev pub define_names : {E A L S : Type 0} → Ops E A L S → Here → E → List (Named A) → Pending A L → Step S (List Binder × Renamed A L)
define_names ops here e ns p s = define_all ops here e (λ i. i) ns p s

-- fields are bound to locals of their own
abbrev pub fields_bound : {E A L S : Type 0} → Ops E A L S → List (Named A) → Step S (List Binder)
fields_bound ops [] s = done [] s
fields_bound ops (n ∷ ns) s =
    fields_bound ops ns (ops.take_local s) >>= λ bs. done (record { bound = LocalNumber (ops.next_local s); ident = ops.plain n.name; occ = n.occ } ∷ bs)

abbrev pub position : {A : Type 0} → (A → A → Bool) → A → List (FieldShape A) → ℕ
position same i [] = 0
position same i (f ∷ fs) = if same f.field.name i then 0 else suc (position same i fs)

abbrev pub modifiers : {A : Type 0} → List (FieldShape A) → List (Named A)
modifiers [] = []
modifiers (f ∷ fs) = modifier f.modifier (modifiers fs)
  where
    modifier : {A : Type 0} → Option (Named A) → List (Named A) → List (Named A)
    modifier None ns = ns
    modifier (Some m) ns = m ∷ ns

abbrev pub modified : {A : Type 0} → ℕ → List (FieldShape A) → List ℕ
modified n [] = []
modified n (f ∷ fs) = if is_some f.modifier then n ∷ modified (suc n) fs else modified (suc n) fs

-- what a record defines, in its order (R7RS 5.5)
abbrev pub record_names : {A : Type 0} → RecordShape A → List (Named A)
record_names r = r.type ∷ r.constructor ∷ r.predicate ∷ map (λ f. f.accessor) r.fields ++ modifiers r.fields

abbrev pub record_part : {A : Type 0} → (A → A → Bool) → RecordShape A → List Binder → List Binder → RecordType
record_part same r binders fields = record {
  binders = binders;
  fields = fields;
  modified = modified 0 r.fields;
  used = map (λ n. record { field = position same n.name r.fields; occ = n.occ }) r.used;
}

-- ---- the forms, head-expanded in order

-- a fault ends the pass
abbrev pub caught : {A B L S : Type 0} → List (Note L) → Result B Broken × S → (B → S → Pass A L × S) → Pass A L × S
caught ns (Ok x, t) go = go x t
caught ns (Err e, t) go = (record { notes = ns; left = Err e }, t)

abbrev pub Going : Type 0 → Type 0 → Type 0 → Type 0
Going A L S = Pending A L → S → Pass A L × S

-- `(define id e)`, and a later one of a program's variable
abbrev pub run_variable : {E A L S : Type 0} → Ops E A L S → Going A L S → Here → E → Named A → Tree A → Bool → Pending A L → S → Pass A L × S
run_variable ops go here e n t true p s = go (put (Assigned n (record { here = here; tree = t })) p) s
run_variable ops go here e n t false p s = caught p.notes (told here (ops.define n None e (put (Value (binder_at ops e s n) (record { here = here; tree = t })) p) s)) (λ d. go d.pending)

abbrev pub run_function : {E A L S : Type 0} → Ops E A L S → Going A L S → Here → E → Named A → Clause A → Bool → Pending A L → S → Pass A L × S
run_function ops go here e n c true p s = go (put (AssignedFunction n here c) p) s
run_function ops go here e n c false p s = caught p.notes (told here (ops.define n None e (put (Function (binder_at ops e s n) here c) p) s)) (λ d. go d.pending)

abbrev pub run_define : {E A L S : Type 0} → Ops E A L S → Going A L S → Here → E → Pending A L → DefinitionShape A → S → Pass A L × S
run_define ops go here e p (Variable n t) s = run_variable ops go here e n t (ops.is_assigned e s n.name) p (ops.ask (Assigns e n.name ∷ []) s)
run_define ops go here e p (Procedure n c) s = run_function ops go here e n c (ops.is_assigned e s n.name) p (ops.ask (Assigns e n.name ∷ []) s)

-- the value reads as the definitions make it
abbrev pub run_values : {E A L S : Type 0} → Ops E A L S → Going A L S → Here → E → Pending A L → Formals A × Tree A → S → Pass A L × S
run_values ops go here e p d s =
    caught p.notes (define_names ops here e d.0.names p s)
    (λ r. go (put (ValuesOf (record { names = r.0; rest = d.0.rest }) (record { here = here; tree = map_tree r.1.rename d.1 })) r.1.pending))

abbrev pub run_record : {E A L S : Type 0} → Ops E A L S → Going A L S → Here → E → Pending A L → RecordShape A → S → Pass A L × S
run_record {E} {A} {L} {S} ops go here e p r s =
    caught {B = List Binder × (List Binder × Renamed A L)} p.notes
    (fields_bound ops (map (λ f. f.field) r.fields) s >>= λ bs t. define_names ops here e (record_names r) p t >>= λ q. done (bs, q))
    (λ q. go (put (Record (record_part ops.names.same r q.1.0 q.0)) q.1.1.pending))

-- the parts of rules behind their head, which is looked up and means `syntax-rules`
abbrev pub is_rules : Head → Bool
is_rules (IsCore k) = false
is_rules (IsAuxiliary IsSyntaxRules) = true
is_rules (IsAuxiliary IsUnquote) = false
is_rules (IsAuxiliary IsUnquoteSplicing) = false
is_rules (IsAuxiliary IsOther) = false
is_rules (IsMacro m) = false
is_rules IsNone = false

-- the head of a list of rules, and what follows it
pub record RulesParts (A : Type 0) : Type 0 where
  pub head : A
  pub parts : Trees A
  pub tail : Tail A

abbrev pub rules_parts_of : {A : Type 0} → Tree A → Option (RulesParts A)
rules_parts_of (name i o) = None
rules_parts_of (atom a o) = None
rules_parts_of (vector ts o) = None
rules_parts_of (list no_trees tail o) = None
rules_parts_of (list (tree (name i p) ts) tail o) = Some (record { head = i; parts = ts; tail = tail })
rules_parts_of (list (tree (atom a p) ts) tail o) = None
rules_parts_of (list (tree (list us end p) ts) tail o) = None
rules_parts_of (list (tree (vector us p) ts) tail o) = None

-- rules by a list whose head means `syntax-rules`
abbrev pub rules_parts : {E A L S : Type 0} → Ops E A L S → Here → E → Option (RulesParts A) → Step S (RulesParts A)
rules_parts ops here e None s = fails here BadForm s
rules_parts ops here e (Some r) s = if is_rules (head_of ops e s r.head) then done r (ops.ask (Headed e r.head ∷ []) s) else fails here BadForm (ops.ask (Headed e r.head ∷ []) s)

-- the look-up of the head of rules
abbrev pub rules_note : {E A L S : Type 0} → Ops E A L S → E → S → Option (RulesParts A) → List (Note L)
rules_note ops e s None = []
rules_note ops e s (Some r) = LookedUp (ops.place e r.head) false (is_keyword (head_of ops e s r.head)) ∷ []

-- rules are counted before they are checked
abbrev pub rules_at : {E A L S : Type 0} → Ops E A L S → Here → Tree A → RulesParts A → Step S (Rules A)
rules_at ops here t r s = counting ops here (tree_size t) s >>= λ u. given ops.plain here (rules_of ops.names r.parts r.tail)

abbrev pub run_syntax : {E A L S : Type 0} → Ops E A L S → Going A L S → Here → E → Pending A L → Named A × Tree A → S → Pass A L × S
run_syntax ops go here e p d s = defined_by ops go here e d s (noted (rules_note ops e s (rules_parts_of d.1)) p)
  where
    defined_by : {E A L S : Type 0} → Ops E A L S → Going A L S → Here → E → Named A × Tree A → S → Pending A L → Pass A L × S
    defined_by {E} {A} {L} {S} ops go here e d s q =
        caught {B = Binder × Pending A L} q.notes (rules_parts ops here e (rules_parts_of d.1) s >>= λ r t0. rules_at ops here d.1 r t0 >>= λ rules t. told here (ops.define d.0 (Some rules) e q t) >>= λ made. done (binder_at ops e t d.0, made.pending))
        (λ r. go (put (Macro r.0 here) r.1))

-- spliced forms
abbrev pub splice : {E A L S : Type 0} → Ops E A L S → Going A L S → Here → Pending A L → Trees A → S → Pass A L × S
splice ops go here p ts s = caught p.notes (counting ops here 1 s) (λ u. go (first (forms_at here ts) p))

abbrev pub or_none : {A : Type 0} → Option (Trees A) → Trees A
or_none None = no_trees
or_none (Some ts) = ts

abbrev pub read_then : {E A L S B : Type 0} → Ops E A L S → Here → Pending A L → Result B (Fault A) → (B → S → Pass A L × S) → S → Pass A L × S
read_then ops here p r go s = caught p.notes (given ops.plain here r s) go

-- a core form at the front of what is left; `form` is that form
abbrev pub run_core : {E A L S : Type 0} → Ops E A L S → Going A L S → Here → E → CoreKeyword → Target → Form A → Trees A → Tail A → Pending A L → S → Pass A L × S
run_core ops go here e IsQuote k form ts tail p s = go (put (Expression form) p) s
run_core ops go here e IsQuasiquote k form ts tail p s = go (put (Expression form) p) s
run_core ops go here e IsLambda k form ts tail p s = go (put (Expression form) p) s
run_core ops go here e IsCaseLambda k form ts tail p s = go (put (Expression form) p) s
run_core ops go here e IsIf k form ts tail p s = go (put (Expression form) p) s
run_core ops go here e IsSet k form ts tail p s = go (put (Expression form) p) s
run_core ops go here e IsBegin k form ts tail p s = read_then ops here p (proper_of ts tail) (splice ops go here p) (ops.meet k s)
run_core ops go here e IsDefine k form ts tail p s = read_then ops here p (definition_of ops.names.same ts tail) (run_define ops go here e p) (ops.meet k s)
run_core ops go here e IsDefineValues k form ts tail p s = read_then ops here p (values_of ops.names.same ts tail) (run_values ops go here e p) (ops.meet k s)
run_core ops go here e IsDefineRecordType k form ts tail p s = read_then ops here p (record_of ops.names.same ts tail) (run_record ops go here e p) (ops.meet k s)
run_core ops go here e IsDefineSyntax k form ts tail p s = read_then ops here p (syntax_of ts tail) (run_syntax ops go here e p) (ops.meet k s)
run_core ops go here e IsLetSyntax k form ts tail p s = go (put (Expression form) p) s
run_core ops go here e IsLetrecSyntax k form ts tail p s = go (put (Expression form) p) s
run_core ops go here e IsCondExpand k form ts tail p s =
    read_then ops here p (chosen_of ops.names.strip ops.known ts tail) (λ c. splice ops go here p (or_none c)) (ops.ask (map Library (libraries_in ops.names.strip ts tail)) (ops.meet k s))
run_core ops go here e IsSyntaxError k form ts tail p s = go (put (Expression form) p) s
run_core ops go here e IsInclude k form ts tail p s = go (put (Expression form) p) s

abbrev pub run_use : {E A L S : Type 0} → Ops E A L S → Going A L S → Here → E → Target → Option (Transformer E A) → Form A → Trees A → Tail A → Pending A L → S → Pass A L × S
run_use ops go here e k None form ts tail p s = go (put (Expression form) p) s
run_use ops go here e k (Some m) form ts tail p s = gone_on ops go here e k m ts tail s (noted (comparisons ops e m ts tail s) p)
  where
    gone_on : {E A L S : Type 0} → Ops E A L S → Going A L S → Here → E → Target → Transformer E A → Trees A → Tail A → S → Pending A L → Pass A L × S
    gone_on ops go here e k m ts tail s q = caught q.notes (use_of ops here e k m ts tail s) (λ i. go (first (record { here = here; tree = i.tree } ∷ []) (waiting i.met q)))

abbrev pub run_head : {E A L S : Type 0} → Ops E A L S → Going A L S → Here → E → Head → Target → Form A → Trees A → Tail A → Pending A L → S → Pass A L × S
run_head ops go here e (IsCore c) k form ts tail p s = run_core ops go here e c k form ts tail p s
run_head ops go here e (IsAuxiliary a) k form ts tail p s = go (put (Expression form) p) s
run_head ops go here e (IsMacro m) k form ts tail p s = run_use ops go here e k (ops.transformer s m) form ts tail p (ops.ask (RulesOf m ∷ []) s)
run_head ops go here e IsNone k form ts tail p s = go (put (Expression form) p) s

-- `p` is what is left behind the form
abbrev pub run_form : {E A L S : Type 0} → Ops E A L S → Going A L S → E → Here → Form A → Tree A → Pending A L → S → Pass A L × S
run_form ops go e here form (name i o) p s = go (put (Expression form) p) s
run_form ops go e here form (atom a o) p s = go (put (Expression form) p) s
run_form ops go e here form (vector ts o) p s = go (put (Expression form) p) s
run_form ops go e here form (list no_trees tail o) p s = go (put (Expression form) p) s
run_form ops go e here form (list (tree (name i q) ts) tail o) p s =
    run_head ops go here e (head_of ops e s i) (target_of ops e s i q) form ts tail (noted (LookedUp (ops.place e i) true (is_keyword (head_of ops e s i)) ∷ []) p) (ops.ask (Headed e i ∷ []) s)
run_form ops go e here form (list (tree (atom a q) ts) tail o) p s = go (put (Expression form) p) s
run_form ops go e here form (list (tree (list us end q) ts) tail o) p s = go (put (Expression form) p) s
run_form ops go e here form (list (tree (vector us q) ts) tail o) p s = go (put (Expression form) p) s

abbrev pub run_next : {E A L S : Type 0} → Ops E A L S → Going A L S → E → List (Form A) → Pending A L → S → Pass A L × S
run_next ops go e [] p s = (record { notes = p.notes; left = Ok (record { uses = p.uses; items = p.aside }) }, s)
run_next ops go e (f ∷ fs) p s = run_form ops go e (here_at ops.plain f.tree f.here) f f.tree (record p { todo = fs }) s

-- the turns bound the recursion alone
abbrev pub run : {E A L S : Type 0} → Ops E A L S → ℕ → E → Pending A L → S → Pass A L × S
run ops zero e p s = (record { notes = p.notes; left = Err (record { fault = OutOfTurns; here = None }) }, s)
run ops (suc turns) e p s = run_next ops (run ops turns e) e p.todo p s
