-- Expansion by substitution: each binder is replaced throughout its region, shallowly where a form binds it, deeply where a
-- body defines it. A unit's own definitions stand in a table.
use Rattle.std.specs.Prelude.{ℕ, suc, ◌+◌, ◌==◌, List, [], ◌∷◌, map, Bool, true, false, ◌||◌, ◌&&◌, not, Option, Some, None, Result, Ok, Err, if◌then◌else◌}
use Rattle.scheme_model.specs.declared.Occ.{Occ}
use Rattle.scheme_model.specs.Identifiers.{Number, same_number, Name, Written, Inserted, Inner, Var, same_name, strip}
use Rattle.scheme_model.specs.Ident.{Ident, same_ident, erase}
use Rattle.scheme_model.specs.Trees.{map_tree, map_trees}
use Rattle.scheme_model.specs.ExpansionFaults.{Named, named_map, named, Fault, KeywordRedefined, Duplicate}
use Rattle.scheme_model.specs.Meaning.{Meaning, Local, Global, Standard, Free, same_meaning}
use Rattle.scheme_model.specs.Shapes.{Clause}
use Rattle.scheme_model.specs.Requirements.{Known}
use Rattle.scheme_model.specs.RulesShape.{Rules, rules_map}
use Rattle.scheme_model.specs.Cores.{Target, LocalNumber, Definition, MacroUse}
use Rattle.scheme_model.specs.Order.{Form, Item, Expression, Value, Function, Assigned, AssignedFunction, ValuesOf, Record, Macro, Note, LookedUp, Compared, WaitingUse, Pending, Renamed, Transformer, Ops, is_some}

-- ---- meanings (R7RS 4.3)

-- a definition of a unit: the form that it stands in, its identifier, whether it is a macro, and its place
pub record Defined : Type 0 where
  pub unit : ℕ
  pub form : ℕ
  pub ident : Ident
  pub keyword : Bool
  pub occ : Option Occ

-- the definitions of all units, latest first
abbrev pub Table : Type 0
Table = List Defined

abbrev pub defined_in : Table → ℕ → Ident → Option Defined
defined_in [] u i = None
defined_in (d ∷ ds) u i = if d.unit == u && same_ident d.ident i then Some d else defined_in ds u i

-- how many definitions a unit has
abbrev pub definition_count : Table → ℕ → ℕ
definition_count [] u = 0
definition_count (d ∷ ds) u = if d.unit == u then suc (definition_count ds u) else definition_count ds u

-- what each unit imports under which symbol
abbrev pub Entries : Type 0
Entries = ℕ → List ℕ → Option Meaning

-- a name that nothing was substituted in
abbrev pub is_plain : Name → Bool
is_plain (Written u s) = true
is_plain (Inserted i k) = is_plain i
is_plain (Inner b i) = false
is_plain (Var v i) = false

-- what a unit defines under exactly this identifier
abbrev pub defines : Table → ℕ → Name → Bool
defines table u i = is_plain i && is_some (defined_in table u (erase i))

abbrev pub imported : Option Meaning → List ℕ → Meaning
imported None s = Free s
imported (Some m) s = m

abbrev pub global_or : Bool → ℕ → Name → Meaning → Meaning
global_or true u i other = Global u (erase i)
global_or false u i other = other

abbrev pub meaning : Table → Entries → Name → Meaning
meaning table entry (Var v i) = Local v
meaning table entry (Inner b i) = meaning table entry i
meaning table entry (Inserted i k) = global_or (defines table k.unit (Inserted i k)) k.unit (Inserted i k) (meaning table entry i)
meaning table entry (Written u s) = global_or (defines table u (Written u s)) u (Written u s) (imported (entry u s) s)

-- ---- substitution

-- shallow: a leaf that is exactly x becomes `Var v x`
abbrev pub shallow : Name → Number → Name → Name
shallow x v j = if same_name j x then Var v x else j

-- deep: also where x stands inside, but not inside a `Var`
abbrev pub deep : Name → Number → Name → Name
deep x v (Written u s) = if same_name (Written u s) x then Var v x else Written u s
deep x v (Inserted j k) = if same_name (Inserted j k) x then Var v x else Inserted (deep x v j) k
deep x v (Var w j) = if same_name (Var w j) x then Var v x else Var w j
deep x v (Inner b j) = if same_name (Inner b j) x then Var v x else Inner b (deep x v j)

abbrev pub form_map : {A B : Type 0} → (A → B) → Form A → Form B
form_map f x = record { here = x.here; tree = map_tree f x.tree }

abbrev pub clause_map : {A B : Type 0} → (A → B) → Clause A → Clause B
clause_map f c = record { formals = record { names = map (named_map f) c.formals.names; rest = c.formals.rest }; body = map_trees f c.body }

abbrev pub item_map : {A B : Type 0} → (A → B) → Item A → Item B
item_map f (Expression x) = Expression (form_map f x)
item_map f (Value b x) = Value b (form_map f x)
item_map f (Function b here c) = Function b here (clause_map f c)
item_map f (Assigned n x) = Assigned (named_map f n) (form_map f x)
item_map f (AssignedFunction n here c) = AssignedFunction (named_map f n) here (clause_map f c)
item_map f (ValuesOf bs x) = ValuesOf bs (form_map f x)
item_map f (Record r) = Record r
item_map f (Macro b here) = Macro b here

abbrev pub note_map : {L M : Type 0} → (L → M) → Note L → Note M
note_map f (LookedUp l head keyword) = LookedUp (f l) head keyword
note_map f (Compared l j held) = Compared (f l) (f j) held

abbrev pub use_map : {A B : Type 0} → (A → B) → WaitingUse A → WaitingUse B
use_map f u = record { keyword = u.keyword; literals = map (named_map f) u.literals }

abbrev pub pending_map : {A B L M : Type 0} → (A → B) → (L → M) → Pending A L → Pending B M
pending_map f g p = record { todo = map (form_map f) p.todo; aside = map (item_map f) p.aside; uses = map (use_map f) p.uses; notes = map (note_map g) p.notes }

-- each name of what is pending reads so
abbrev pub renamed : (Name → Name) → Pending Name Name → Renamed Name Name
renamed f p = record { pending = pending_map f f p; rename = f }

abbrev pub unchanged : {A L : Type 0} → Pending A L → Renamed A L
unchanged p = record { pending = p; rename = λ i. i }

-- ---- the state

-- how far each form has counted
abbrev pub Clock : Type 0
Clock = ℕ → ℕ

abbrev pub at_form : {X : Type 0} → ℕ → (X → X) → (ℕ → X) → ℕ → X
at_form form f clock g = if g == form then f (clock g) else clock g

-- a macro by what it is, with its rules
pub record KeptMacro : Type 0 where
  pub meaning : Meaning
  pub rules : Rules Name

pub record State : Type 0 where
  pub unit : ℕ
  -- a program, in which a variable may be defined again
  pub program : Bool
  pub form : ℕ
  pub locals : Clock
  pub uses : Clock
  pub nodes : Clock
  pub bodies : Clock
  pub keywords : ℕ → List Target
  pub met : ℕ → List MacroUse
  pub table : Table
  pub entry : Entries
  pub macros : List KeptMacro
  -- the innermost body that is open, and the numbers that it has defined
  pub in_body : Bool
  pub mine : List Number

abbrev pub number_at : State → Clock → Number
number_at s clock = record { unit = s.unit; form = s.form; count = clock s.form }

abbrev pub means : State → Name → Meaning
means s i = meaning s.table s.entry i

abbrev pub rules_at : List KeptMacro → Meaning → Option (Rules Name)
rules_at [] m = None
rules_at (k ∷ ks) m = if same_meaning k.meaning m then Some k.rules else rules_at ks m

abbrev pub transformer_of : Option (Rules Name) → Option (Transformer (Unit {0}) Name)
transformer_of None = None
transformer_of (Some r) = Some (record { env = tt; rules = r })

abbrev pub is_among : Number → List Number → Bool
is_among v [] = false
is_among v (w ∷ ws) = same_number v w || is_among v ws

abbrev pub with_macro : Meaning → Option (Rules Name) → List KeptMacro → List KeptMacro
with_macro m None ks = ks
with_macro m (Some r) ks = record { meaning = m; rules = r } ∷ ks

-- ---- definitions

abbrev pub differ : Bool → Bool → Bool
differ true b = not b
differ false b = b

abbrev pub any : {A : Type 0} → (A → Bool) → List A → Bool
any f [] = false
any f (x ∷ xs) = f x || any f xs

-- j is x, or its meaning passes through x on the way
abbrev pub asks : Name → Name → Bool
asks x (Written u s) = same_name (Written u s) x
asks x (Inserted j k) = same_name (Inserted j k) x || asks x j
asks x (Var w j) = same_name (Var w j) x
asks x (Inner c j) = same_name (Inner c j) x || asks x j

-- what was looked up or compared would come out otherwise: a keyword that a head asked, or a head that now is one
abbrev pub is_refused : {L : Type 0} → Bool → (L → Bool) → (L → Meaning) → Note L → Bool
is_refused new asked now (LookedUp j head keyword) = asked j && (keyword || (head && new))
is_refused new asked now (Compared l j held) = (asked l || asked j) && differ held (same_meaning (now l) (now j))

abbrev pub refused_in_body : State → Name → Number → Bool → Note Name → Bool
refused_in_body s x v new note = is_refused new (asks x) (λ j. means s (deep x v j)) note

-- the name by then reads `Var v x` with a number that this body has defined
abbrev pub is_mine : List Number → Name → Bool
is_mine vs (Written u s) = false
is_mine vs (Inserted j k) = false
is_mine vs (Var w j) = is_among w vs
is_mine vs (Inner c j) = false

-- a macro that this body has defined
abbrev pub is_own : List Number → Meaning → Bool
is_own vs (Local v) = is_among v vs
is_own vs (Global u i) = false
is_own vs (Standard x) = false
is_own vs (Free x) = false

abbrev pub rules_mapped : Bool → (Name → Name) → Rules Name → Rules Name
rules_mapped true f r = rules_map f r
rules_mapped false f r = r

abbrev pub own_rules : List Number → (Name → Name) → KeptMacro → KeptMacro
own_rules mine f k = record { meaning = k.meaning; rules = rules_mapped (is_own mine k.meaning) f k.rules }

abbrev pub defined_local : Name → Option (Rules Name) → State → State
defined_local x r s = let v = number_at s s.locals in record s {
  locals = at_form s.form suc s.locals;
  macros = map (own_rules (v ∷ s.mine) (deep x v)) (with_macro (Local v) r s.macros);
  mine = v ∷ s.mine;
}

abbrev pub define_in_body : Named Name → Option (Rules Name) → Pending Name Name → State → Result (Renamed Name Name) (Fault Ident) × State
define_in_body n r p s =
    if any (refused_in_body s n.name (number_at s s.locals) (is_some r)) p.notes then (Err (KeywordRedefined (named (erase n.name) n.occ)), s)
    else if is_mine s.mine n.name then (Err (Duplicate (named (erase n.name) n.occ)), s)
    else (Ok (renamed (deep n.name (number_at s s.locals)) p), defined_local n.name r s)

abbrev pub defined_global : Named Name → Option (Rules Name) → State → State
defined_global n r s = record s {
  table = record { unit = s.unit; form = s.form; ident = erase n.name; keyword = is_some r; occ = n.occ } ∷ s.table;
  macros = with_macro (Global s.unit (erase n.name)) r s.macros;
}

-- a note asked x where it means x once x is defined
abbrev pub refused_in_unit : State → Meaning → Bool → Note Name → Bool
refused_in_unit s m new note = is_refused new (λ j. same_meaning (means s j) m) (means s) note

abbrev pub define_in_unit : Named Name → Option (Rules Name) → Pending Name Name → State → Result (Renamed Name Name) (Fault Ident) × State
define_in_unit n r p s =
    if any (refused_in_unit (defined_global n r s) (Global s.unit (erase n.name)) (is_some r)) p.notes then (Err (KeywordRedefined (named (erase n.name) n.occ)), s)
    else if is_some (defined_in s.table s.unit (erase n.name)) then (Err (Duplicate (named (erase n.name) n.occ)), s)
    else (Ok (unchanged p), defined_global n r s)

abbrev pub define : Named Name → Option (Rules Name) → Pending Name Name → State → Result (Renamed Name Name) (Fault Ident) × State
define n r p s = if s.in_body then define_in_body n r p s else define_in_unit n r p s

abbrev pub is_variable : Option Defined → Bool
is_variable None = false
is_variable (Some d) = not d.keyword

-- ---- the operations

abbrev pub model : Known → Ops (Unit {0}) Name Name State
model known = record {
  names = record { same = same_name; strip = strip };
  plain = erase;
  insert = Inserted;
  place = λ e i. i;
  means = λ e s i. means s i;
  transformer = λ s m. transformer_of (rules_at s.macros m);
  known = known;
  ask = λ qs s. s;
  is_assigned = λ e s i. s.program && (not s.in_body && (is_plain i && is_variable (defined_in s.table s.unit (erase i))));
  counted = λ s. record { locals = s.locals s.form; uses = s.uses s.form; nodes = s.nodes s.form; keywords = s.keywords s.form; met = s.met s.form };
  turn = λ f s. record s { form = f; in_body = false };
  spend = λ n s. record s { nodes = at_form s.form (λ m. m + n) s.nodes };
  meet = λ t s. record s { keywords = at_form s.form (λ ts. t ∷ ts) s.keywords };
  meet_use = λ u s. record s { met = at_form s.form (λ us. u ∷ us) s.met };
  next_use = λ s. number_at s s.uses;
  begin_use = λ e s. record s { uses = at_form s.form suc s.uses };
  next_local = λ s. number_at s s.locals;
  take_local = λ s. record s { locals = at_form s.form suc s.locals };
  next_bound = λ e s. if s.in_body then LocalNumber (number_at s s.locals) else Definition s.unit (definition_count s.table s.unit);
  bind = λ x e ts s. record { env = tt; trees = map_trees (shallow x (number_at s s.locals)) ts; state = record s { locals = at_form s.form suc s.locals } };
  keep = λ v r e s. record s { macros = record { meaning = Local v; rules = r } ∷ s.macros };
  enter = λ e ts s. record { env = tt; trees = map_trees (Inner (number_at s s.bodies)) ts; state = record s { bodies = at_form s.form suc s.bodies; in_body = true; mine = [] } };
  define = λ n r e p s. define n r p s;
}
