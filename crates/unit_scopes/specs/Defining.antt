-- Definitions in the code (R7RS 5.3 to 5.5).
use Rattle.std.specs.Prelude.{is_some as is_kept}
use Rattle.std.specs.Prelude.{◌≡◌, ℕ, ◌+◌, ◌≤◌, List, [], ◌∷◌, Bool, true, false, Option, Some, None, Result, Ok, Err, if◌then◌else◌, ◌&&◌}
use Rattle.std.specs.BTreeMap.{BTreeMap, get, btree_map_len}
use Rattle.std.specs.Ordering.{nat_cmp, is_eq}
use Rattle.scheme_model.specs.Ident.{Ident as Identifier}
use Rattle.scheme_model.specs.ExpansionFaults.{Named}
use Rattle.scheme_model.specs.Meaning.{Meaning}
use Rattle.scheme_model.specs.RulesShape.{Rules}
use Rattle.scheme_model.specs.Cores.{Binder}
use Rattle.scheme_model.specs.Steps.{Broken, Step, ◌>>=◌, done}
use Rattle.scheme_model.specs.Order.{Here, Note, Pending, Ops, told, binder_at, is_some}
use Rattle.scheme_model.specs.Identifiers.{Number}
use Rattle.scheme_model.specs.CountedExpansion.{refused_here}
use Rattle.scheme_model.specs.Questions.{Outcome, outcome_by}
use Rattle.scheme_model.specs.Substitution.{any}
use Rattle.scheme_model.specs.ScopedExpansion.{Frames, FramedIdent, ScopedState, body_around, definition_added, meaning_next, is_defined}
use Rattle.unit_scopes.specs.Searched.{speaks_of}
use Rattle.syntax_tree.specs.Macros.{IsIdent}
use Rattle.syntax_tree.specs.Meant.{IsMeaning}
use Rattle.syntax_tree.specs.declared.meaning.Meaning as code_meaning
use Rattle.syntax_tree.specs.declared.meaning.Meaning.TheVariants as meanings
use Rattle.syntax_tree.specs.declared.trees.Work.{Work}
use Rattle.scope_env.specs.Environment.{with_bound}
use Rattle.core_forms.specs.Parts.{IsName}
use Rattle.core_forms.specs.declared.shape.NamePart.{NamePart}
use Rattle.unit_scopes.specs.Binds.{with_locals}
use Rattle.unit_scopes.specs.Stepped.{with_told, with_macros}
use Rattle.unit_scopes.specs.State.{IsMacro, EnvStands, Stands}
use Rattle.unit_scopes.specs.Kept.{NotesFor, SpotFor}
use Rattle.unit_scopes.specs.Outcomes.{SameForm, Breaks}
use Rattle.unit_scopes.specs.declared.asked.Asked.{Asked}
use Rattle.unit_scopes.specs.declared.definitions.Coming as code_coming
use Rattle.feature_requirements.specs.declared.fault.ExpandFault.{ExpandFault}
use Rattle.feature_requirements.specs.declared.fault.ExpandFault.TheVariants as fault
use Rattle.form_parts.specs.declared.items.Spot as code_spot
use Rattle.unit_scopes.specs.declared.macros.Macro as code_macro
use Rattle.unit_scopes.specs.declared.macros.Macros as code_macros
use Rattle.unit_scopes.specs.Macros.{Keeps, numbered}
use Rattle.unit_scopes.specs.declared.scope.UnitScope.{UnitScope}

-- ---- what calls demand

-- the scopes of the code stand for some state, in which forms are gone through here, and the notes for some notes
pub record CanGo (work : Work) (u : UnitScope) (spot : code_spot.Spot) (asked : Asked) : Type 0 where
  pub layout : List Frames
  pub state : ScopedState
  pub frames : Frames
  pub found : List (Note FramedIdent)
  pub stands : Stands work u layout state
  pub placed : SpotFor work u layout state spot frames
  pub notes : NotesFor work layout asked found

-- and what is defined here has no definition yet
pub record CanMake (work : Work) (u : UnitScope) (spot : code_spot.Spot) (name : NamePart) : Type 0 where
  pub layout : List Frames
  pub state : ScopedState
  pub frames : Frames
  pub named : Named Identifier
  pub stands : Stands work u layout state
  pub placed : SpotFor work u layout state spot frames
  pub is : IsName work name named
  pub new : is_defined state (body_around frames) named.name ≡ false

abbrev pub HasNumber : Work → NamePart → Type 0
HasNumber work name = (n : Named Identifier) × IsName work name n

-- ---- a definition that is about to be made

-- with its binding the scopes of the code stand for this state, and it means this there
pub record ComesTo (work : Work) (u : UnitScope) (ls : List Frames) (t : ScopedState) (c : code_coming.Coming) (m : Meaning) : Type 0 where
  pub env : EnvStands work.symbols (with_bound u.env c.bound.scope c.bound.ident c.bound.meaning) ls t
  pub meaning : IsMeaning work.symbols t.unit t.form c.bound.meaning m

-- it comes to some state, and the notes stand for some notes
pub record CanRefuse (work : Work) (u : UnitScope) (c : code_coming.Coming) (asked : Asked) : Type 0 where
  pub layout : List Frames
  pub state : ScopedState
  pub means : Meaning
  pub ident : Identifier
  pub found : List (Note FramedIdent)
  pub comes : ComesTo work u layout state c means
  pub is : IsIdent work.symbols c.bound.ident ident
  pub notes : NotesFor work layout asked found

-- what the next definition makes an identifier mean in the code
abbrev pub next_here : UnitScope → (in_body : Bool) → (ident : ℕ) → code_meaning.Meaning
next_here u true ident = meanings.Local u.form.budget.locals
next_here u false ident = meanings.Global u.unit ident

-- the scope binds a name to what it means now; a body takes a local, and a unit tells which identifiers it defines, and its form
-- the binder
abbrev pub Places : UnitScope → UnitScope → (in_body : Bool) → (scope : ℕ) → NamePart → code_meaning.Meaning → (is_macro : Bool) → Type 0
Places old new true scope name m k = new ≡ record (with_locals old (old.form.budget.locals + 1)) { env = with_bound old.env scope name.ident m }
Places old new false scope name m k =
    (defined : BTreeMap ℕ Bool) × (new ≡ record (with_told old name) { env = with_bound old.env scope name.ident m; defined = defined })
    × ((n : ℕ) → get nat_cmp defined n ≡ (if is_eq (nat_cmp name.ident n) then Some k else get nat_cmp old.defined n)) × (btree_map_len defined ≡ btree_map_len old.defined + 1)

-- ---- definitions

-- what is to be defined as a macro, if it is one
abbrev pub IsKept : Work → List Frames → Frames → Option code_macro.Macro → Option (Rules Identifier) → Type 0
IsKept work ls fs None None = Unit {0}
IsKept work ls fs None (Some r) = ⊥
IsKept work ls fs (Some k) None = ⊥
IsKept work ls fs (Some k) (Some r) = IsMacro work ls k (record { env = fs; rules = r })

-- a macro, where there is one, is kept with its own edition, or with the next one
abbrev pub KeepsAny : code_macros.Macros → code_macros.Macros → ℕ → code_meaning.Meaning → Option code_macro.Macro → (again : Bool) → Type 0
KeepsAny old new form m None again = new ≡ old
KeepsAny old new form m (Some k) true = Keeps old new form m k
KeepsAny old new form m (Some k) false = Keeps old new form m (numbered k (old.editions + 1))

-- the name is bound there, and its macro is kept
pub record IsPlaced (u v : UnitScope) (spot : code_spot.Spot) (name : NamePart) (kept : Option code_macro.Macro) (again : Bool) : Type 0 where
  pub scope : Places u (with_macros v u.macros) spot.in_body spot.scope name (next_here u spot.in_body name.ident) (is_kept kept)
  pub macros : KeepsAny u.macros v.macros u.form.number (next_here u spot.in_body name.ident) kept again

-- at most so many locals were taken, and nothing else was counted
pub record Takes (most : ℕ) (u v : UnitScope) : Type 0 where
  pub locals : v.form.budget.locals ≤ u.form.budget.locals + most
  pub uses : v.form.budget.uses ≡ u.form.budget.uses
  pub nodes : v.form.budget.nodes ≡ u.form.budget.nodes

-- what the code has after a step that adds no node and opens no scope, where forms are gone through
pub record GoesTo (work : Work) (u v : UnitScope) (ls : List Frames) (spot : code_spot.Spot) (fs : Frames) (t : ScopedState) : Type 0 where
  pub stands : Stands work v ls t
  pub placed : SpotFor work v ls t spot fs
  pub same : SameForm u v

-- how such a step ends; it wants no room
abbrev pub EndsIn : {X Y : Type 0} → (X → Y → Type 0) → Work → UnitScope → UnitScope → List Frames → code_spot.Spot → Frames → Result X ExpandFault → Result Y Broken × ScopedState → Type 0
EndsIn {X} {Y} P work u v ls spot fs (Ok x) p = (y : Y) × GoesTo work u v ls spot fs p.1 × (p.0 ≡ Ok y) × P x y
EndsIn P work u v ls spot fs (Err (fault.At e)) p = GoesTo work u v ls spot fs p.1 × Breaks work e p
EndsIn P work u v ls spot fs (Err fault.Full) p = ⊥
EndsIn P work u v ls spot fs (Err fault.Memory) p = Unit {0}

-- how a definition ends: with it a note that speaks of its identifier would be told otherwise, or the identifier has a definition there, or it stands
abbrev pub outcome_here : Option Number → Named Identifier → Option (Rules Identifier) → Frames → List (Note FramedIdent) → ScopedState → Outcome
outcome_here b n r fs ns s =
    outcome_by (any (λ note. speaks_of n.name note && refused_here (definition_added b n r fs s) (meaning_next s b n.name) (is_some r) note) ns) (is_defined s b n.name)

-- names are defined one after another, each a variable
abbrev pub define_each : {E A L S : Type 0} → Ops E A L S → Here → E → List (Named A) → Pending A L → Step S (List Binder)
define_each ops here e [] p s = done [] s
define_each ops here e (n ∷ ns) p s = told here (ops.define n None e p s) >>= λ made t. define_each ops here e ns p t >>= λ bs. done (binder_at ops e s n ∷ bs)
