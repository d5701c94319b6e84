-- What the scopes, the macros and the counts of the code stand for: a state of the expansion by scopes. A scope's number stands for
-- the frames that its place in a list tells.
use Rattle.std.specs.Prelude.{◌≡◌, ℕ, ◌+◌, ◌*◌, ◌^◌, ◌<◌, ◌≤◌, ◌==◌, List, [], ◌∷◌, Bool, true, false, filter, reverse, length, slice_get, Option, Some, None}
use Rattle.std.specs.Option.{option_map}
use Rattle.std.specs.FinMap as map
use Rattle.std.specs.BTreeMap.{get, btree_map_len}
use Rattle.std.specs.Ordering.{nat_cmp}
use Rattle.scheme_model.specs.Identifiers.{Number}
use Rattle.scheme_model.specs.Ident.{Ident as Identifier}
use Rattle.scheme_model.specs.Meaning.{Meaning, Local, Global, Standard, Free}
use Rattle.scheme_model.specs.Leaves.{leaves_of}
use Rattle.scheme_model.specs.Order.{Transformer, is_some, max_uses, max_nodes}
use Rattle.scheme_model.specs.Substitution.{Defined, Table, defined_in, definition_count}
use Rattle.scheme_model.specs.ScopedExpansion.{Frame, Bind, Enter, Frames, BodyDefinitions, ScopedState, around, macro_at}
use Rattle.syntax_tree.specs.Names.{Names}
use Rattle.syntax_tree.specs.Macros.{identifiers, IsIdent, RulesFor, AreChecked}
use Rattle.syntax_tree.specs.Meant.{IsSymbol, IsMeaning}
use Rattle.syntax_tree.specs.declared.meaning.Meaning as code_meaning
use Rattle.syntax_tree.specs.declared.meaning.Meaning.TheVariants as code_meanings
use Rattle.syntax_tree.specs.declared.trees.Work.{Work}
use Rattle.syntax_tree.specs.declared.units.UnitKind as code_kind
use Rattle.syntax_tree.specs.declared.units.UnitKind.TheVariants as kind
use Rattle.scope_env.specs.Environment.{Environment}
use Rattle.scope_env.specs.Standing.{EnvFor, StandsFor}
use Rattle.scope_env.specs.Moved.{parent_of, IsNamed, AreNamed, AreGivenNamed}
use Rattle.core_tree.specs.Names.{AllMatch, IsTarget, IsUse}
use Rattle.core_tree.specs.Units.{IsDefinition, defined_by}
use Rattle.core_tree.specs.declared.cores.Binder as code_binder
use Rattle.unit_scopes.specs.Chains.{chain_in, uses_in, given_in}
use Rattle.rules_check.specs.Gathered.{AreLeaves}
use Rattle.unit_scopes.specs.declared.macros.Macro as code_macro
use Rattle.unit_scopes.specs.declared.macros.Macros as code_macros
use Rattle.unit_scopes.specs.Macros.{macro_in}
use Rattle.unit_scopes.specs.declared.scope.FormAtWork as code_form
use Rattle.unit_scopes.specs.declared.scope.UnitScope as code

-- ---- macros

-- a macro stands for this one: its scope's frames, its rules, which were checked, and their leaves
pub record IsMacro (work : Work) (ls : List Frames) (k : code_macro.Macro) (m : Transformer Frames Identifier) : Type 0 where
  pub scope : slice_get ls k.scope ≡ Some m.env
  pub checked : AreChecked work k.rules
  pub rules : RulesFor work k.rules m.rules
  pub leaves : AreLeaves work.symbols k.leaves.items (leaves_of identifiers m.rules)

abbrev pub IsMacroIfAny : Work → List Frames → Option code_macro.Macro → Option (Transformer Frames Identifier) → Type 0
IsMacroIfAny work ls None None = Unit {0}
IsMacroIfAny work ls None (Some m) = ⊥
IsMacroIfAny work ls (Some k) None = ⊥
IsMacroIfAny work ls (Some k) (Some m) = IsMacro work ls k m

-- the maps have the macros of the state; what means one has a number, and nothing free does
pub record MacrosStand (work : Work) (ms : code_macros.Macros) (ls : List Frames) (s : ScopedState) : Type 0 where
  pub there : (form : ℕ) (c : code_meaning.Meaning) (m : Meaning) → IsMeaning work.symbols s.unit form c m → IsMacroIfAny work ls (macro_in ms form c) (macro_at s.macros m)
  pub idents : (u : ℕ) (i : Identifier) → is_some (macro_at s.macros (Global u i)) ≡ true → IsNamed work.symbols i
  pub symbols : (x : List ℕ) → is_some (macro_at s.macros (Standard x)) ≡ true → (n : ℕ) × IsSymbol work.symbols n x
  pub free : (x : List ℕ) → macro_at s.macros (Free x) ≡ None
  pub known_idents : (form u n : ℕ) → is_some (macro_in ms form (code_meanings.Global u n)) ≡ true → n < length work.symbols.idents
  pub known_symbols : (form n : ℕ) → is_some (macro_in ms form (code_meanings.Standard n)) ≡ true → n < length work.symbols.symbols

-- ---- numbers

-- a body was entered: no body of its form has this number later
abbrev pub IsEntered : ScopedState → Number → Type 0
IsEntered s b = b.unit ≡ s.unit → b.count < s.bodies b.form

abbrev pub AreEntered : ScopedState → Frames → Type 0
AreEntered s [] = Unit {0}
AreEntered s (Bind x v ∷ fs) = AreEntered s fs
AreEntered s (Enter b u ∷ fs) = IsEntered s b × AreEntered s fs

-- so was each body that has a definition
abbrev pub AreDefined : ScopedState → BodyDefinitions → Type 0
AreDefined s [] = Unit {0}
AreDefined s (d ∷ ds) = IsEntered s d.body × AreDefined s ds

-- ---- units that were begun

-- a number is of a unit that was begun
abbrev pub IsBegun : map.FinMap nat_cmp ℕ → Number → Type 0
IsBegun roots v = (root : ℕ) × (map.get roots v.unit ≡ Some root)

-- so are the bodies around a place
abbrev pub AreBegun : map.FinMap nat_cmp ℕ → Frames → Type 0
AreBegun roots [] = Unit {0}
AreBegun roots (Bind x v ∷ fs) = AreBegun roots fs
AreBegun roots (Enter b u ∷ fs) = IsBegun roots b × AreBegun roots fs

abbrev pub BodiesBegun : map.FinMap nat_cmp ℕ → BodyDefinitions → Type 0
BodiesBegun roots [] = Unit {0}
BodiesBegun roots (d ∷ ds) = IsBegun roots d.body × BodiesBegun roots ds

-- so no number of a unit that is still to be begun is in use
pub record HasBegun (roots : map.FinMap nat_cmp ℕ) (ls : List Frames) (s : ScopedState) : Type 0 where
  pub frames : (n : ℕ) (fs : Frames) → slice_get ls n ≡ Some fs → AreBegun roots fs
  pub bodies : BodiesBegun roots s.definitions
  pub macros : (v : Number) → is_some (macro_at s.macros (Local v)) ≡ true → IsBegun roots v

-- ---- scopes

-- each scope has the binders of its frames, the scope of each use is that of its macro's frames, and units give what is given;
-- a scope with binders around it is inside another, and all that is bound has a number
pub record EnvStands (names : Names) (env : Environment) (ls : List Frames) (s : ScopedState) : Type 0 where
  pub count : length ls ≡ length env.scopes
  pub scopes : (n : ℕ) (fs : Frames) → slice_get ls n ≡ Some fs → StandsFor names env (Some n) (chain_in s fs)
  pub given : EnvFor names env (given_in s) (uses_in s)
  pub noted : (k : Number) (n : ℕ) → map.get env.uses k ≡ Some n → slice_get ls n ≡ Some (around s.places k)
  pub unnoted : (k : Number) → map.get env.uses k ≡ None → around s.places k ≡ []
  pub inside : (n : ℕ) (f : Frame) (fs : Frames) → slice_get ls n ≡ Some (f ∷ fs) → (p : ℕ) × (parent_of env n ≡ Some p)
  pub entered : (n : ℕ) (fs : Frames) → slice_get ls n ≡ Some fs → AreEntered s fs
  pub defined : AreDefined s s.definitions
  pub named : (n : ℕ) (fs : Frames) → slice_get ls n ≡ Some fs → AreNamed names (chain_in s fs)
  pub given_named : AreGivenNamed names (given_in s)

-- ---- definitions of units

-- definitions, latest first, each with how many there were before it
abbrev pub numbered : List Defined → List (ℕ × Defined)
numbered [] = []
numbered (d ∷ ds) = (length ds, d) ∷ numbered ds

-- those of a unit that are of this form, as the unit numbers them
abbrev pub numbered_in : (unit form : ℕ) → Table → List (ℕ × Defined)
numbered_in unit form table = filter (λ (d : ℕ × Defined). d.1.form == form) (numbered (defined_by unit table))

-- the definition of a form by its number
abbrev pub IsNumbered : Names → (form : ℕ) → code_binder.Binder → ℕ × Defined → Type 0
IsNumbered names form b d = IsDefinition names d.0 (form, b) d.1

-- ---- the form at work

-- the most locals of a form that has counted so many nodes
abbrev pub most_locals : ℕ → ℕ
most_locals nodes = 2 ^ 44 * (nodes + 1)

-- Its counts are within their budgets. Locals have no budget: so many for each node and one node more bound them below 2^62.
pub record FormStands (names : Names) (f : code_form.FormAtWork) (s : ScopedState) : Type 0 where
  pub number : f.number ≡ s.form
  pub locals : f.budget.locals ≡ s.locals s.form
  pub uses : f.budget.uses ≡ s.uses s.form
  pub nodes : f.budget.nodes ≡ s.nodes s.form
  pub few_uses : f.budget.uses ≤ max_uses
  pub few_nodes : f.budget.nodes ≤ max_nodes
  pub few_locals : f.budget.locals ≤ most_locals f.budget.nodes
  pub definitions : AllMatch (IsNumbered names s.form) (reverse f.trace.definitions) (numbered_in s.unit s.form s.table)
  pub keywords : AllMatch (IsTarget names s.unit s.form) f.trace.keywords (reverse (s.keywords s.form))
  pub met : AllMatch (IsUse names s.unit s.form) f.trace.uses (reverse (s.met s.form))

-- ---- the whole

abbrev pub is_program : code_kind.UnitKind → Bool
is_program kind.Library = false
is_program kind.Program = true
is_program kind.Part = false

pub record Stands (work : Work) (scope : code.UnitScope) (ls : List Frames) (s : ScopedState) : Type 0 where
  pub unit : scope.unit ≡ s.unit
  pub program : is_program scope.kind ≡ s.program
  pub env : EnvStands work.symbols scope.env ls s
  pub macros : MacrosStand work scope.macros ls s
  pub root : slice_get ls scope.root ≡ Some []
  pub own : map.get scope.env.roots scope.unit ≡ Some scope.root
  pub begun : HasBegun scope.env.roots ls s
  pub form : FormStands work.symbols scope.form s
  pub defined : (n : ℕ) (i : Identifier) → IsIdent work.symbols n i → get nat_cmp scope.defined n ≡ option_map (λ d. d.keyword) (defined_in s.table s.unit i)
  pub known : (n : ℕ) (k : Bool) → get nat_cmp scope.defined n ≡ Some k → n < length work.symbols.idents
  pub count : btree_map_len scope.defined ≡ definition_count s.table s.unit

-- ---- between two calls, when no form is at work

pub record Rests (work : Work) (scope : code.UnitScope) (ls : List Frames) (s : ScopedState) : Type 0 where
  pub unit : scope.unit ≡ s.unit
  pub program : is_program scope.kind ≡ s.program
  pub env : EnvStands work.symbols scope.env ls s
  pub macros : MacrosStand work scope.macros ls s
  pub root : slice_get ls scope.root ≡ Some []
  pub own : map.get scope.env.roots scope.unit ≡ Some scope.root
  pub begun : HasBegun scope.env.roots ls s
  pub defined : (n : ℕ) (i : Identifier) → IsIdent work.symbols n i → get nat_cmp scope.defined n ≡ option_map (λ d. d.keyword) (defined_in s.table s.unit i)
  pub known : (n : ℕ) (k : Bool) → get nat_cmp scope.defined n ≡ Some k → n < length work.symbols.idents
  pub count : btree_map_len scope.defined ≡ definition_count s.table s.unit
