-- What the operations make of a state and of frames, and what the code makes of its counts and scopes there.
use Rattle.std.specs.Prelude.{◌≡◌, ℕ, suc, ◌+◌, List, [], ◌∷◌, ◌++◌, length, slice_get, Bool, false, ◌||◌, Option, Some}
use Rattle.std.specs.BTreeMap.{BTreeMap, btree_map_len}
use Rattle.scheme_model.specs.declared.Occ.{Occ}
use Rattle.scheme_model.specs.Identifiers.{Number, same_number}
use Rattle.scheme_model.specs.Ident.{Ident as Identifier}
use Rattle.scheme_model.specs.ExpansionFaults.{Named}
use Rattle.scheme_model.specs.Meaning.{Meaning}
use Rattle.scheme_model.specs.Cores.{Target, MacroUse, LocalNumber, Binder}
use Rattle.scheme_model.specs.Substitution.{Clock, at_form}
use Rattle.scheme_model.specs.Order.{Transformer}
use Rattle.scheme_model.specs.Steps.{Step, done}
use Rattle.scheme_model.specs.ScopedExpansion.{Bind, Enter, Frames, ScopedState, next_number}
use Rattle.syntax_tree.specs.declared.meaning.Meaning.TheVariants.{Global}
use Rattle.syntax_tree.specs.Names.{Names}
use Rattle.scope_env.specs.Environment.{Environment, with_bound, with_use}
use Rattle.scope_env.specs.Resolved.{bound_at}
use Rattle.scope_env.specs.Standing.{bound_by}
use Rattle.core_forms.specs.declared.shape.NamePart.{NamePart}
use Rattle.core_tree.specs.declared.cores.Binder as code_binder
use Rattle.core_tree.specs.declared.cores.Target as code_target
use Rattle.core_tree.specs.declared.traces.MacroUse as code_use
use Rattle.unit_scopes.specs.Chains.{body_chain}
use Rattle.unit_scopes.specs.State.{numbered_in}
use Rattle.unit_scopes.specs.declared.macros.Macros as code_macros
use Rattle.unit_scopes.specs.declared.scope.UnitScope.{UnitScope}

-- ---- counts

abbrev pub spent : ℕ → ScopedState → ScopedState
spent n s = record s { nodes = at_form s.form (λ m. m + n) s.nodes }

-- so many locals are taken
abbrev pub taken : ℕ → ScopedState → ScopedState
taken n s = record s { locals = at_form s.form (λ m. m + n) s.locals }

abbrev pub met : Target → ScopedState → ScopedState
met t s = record s { keywords = at_form s.form (λ ts. t ∷ ts) s.keywords }

abbrev pub met_use : MacroUse → ScopedState → ScopedState
met_use u s = record s { met = at_form s.form (λ us. u ∷ us) s.met }

-- a keyword more, and a use more, was met
abbrev pub with_keyword : UnitScope → code_target.Target → UnitScope
with_keyword u t = record u { form = record u.form { trace = record u.form.trace { keywords = u.form.trace.keywords ++ t ∷ [] } } }

abbrev pub with_met : UnitScope → code_use.MacroUse → UnitScope
with_met u k = record u { form = record u.form { trace = record u.form.trace { uses = u.form.trace.uses ++ k ∷ [] } } }

-- the form's list of uses
abbrev pub with_uses : UnitScope → List code_use.MacroUse → UnitScope
with_uses u ks = record u { form = record u.form { trace = record u.form.trace { uses = ks } } }

-- ---- binders

abbrev pub after : Number → Number
after v = record { unit = v.unit; form = v.form; count = v.count + 1 }

-- names are bound to locals, from one on, inside these frames
abbrev pub bound_frames : Number → List (Named Identifier) → Frames → Frames
bound_frames v [] fs = fs
bound_frames v (n ∷ ns) fs = bound_frames (after v) ns (Bind n.name v ∷ fs)

abbrev pub bound_binders : Number → List (Named Identifier) → List Binder
bound_binders v [] = []
bound_binders v (n ∷ ns) = record { bound = LocalNumber v; ident = n.name; occ = n.occ } ∷ bound_binders (after v) ns

-- the binders beside what was done with them
abbrev pub with_binders : {B : Type 0} → List Binder → B → Step ScopedState (List Binder × B)
with_binders bs b = done (bs, b)

-- ---- bodies

abbrev pub entered : ScopedState → ScopedState
entered s = record s { bodies = at_form s.form suc s.bodies }

abbrev pub entered_frames : ScopedState → Frames → Frames
entered_frames s fs = Enter (next_number s s.bodies) s.uses ∷ fs

-- a place is inside this body
abbrev pub is_inside : Number → Frames → Bool
is_inside b [] = false
is_inside b (Bind x v ∷ fs) = is_inside b fs
is_inside b (Enter c u ∷ fs) = same_number b c || is_inside b fs

-- the newest scope is that of a body whose forms are gone through: no other scope is inside this body
pub record IsOpenBody (ls : List Frames) (scope : ℕ) (b : Number) (fs : Frames) : Type 0 where
  pub uses : Clock
  pub older : List Frames
  pub layout : ls ≡ older ++ (Enter b uses ∷ fs) ∷ []
  pub newest : scope ≡ length older
  pub others : (n : ℕ) (gs : Frames) → slice_get older n ≡ Some gs → is_inside b gs ≡ false
  pub around : is_inside b fs ≡ false

-- the scope itself binds what the body has defined
abbrev pub BindsBody : Names → Environment → ℕ → ScopedState → Number → Type 0
BindsBody names env scope s b = (n : ℕ) → bound_at env scope n ≡ bound_by names (body_chain s.definitions b) n

-- ---- macros and their uses

-- a macro is kept as what means this
abbrev pub kept : Meaning → Transformer Frames Identifier → ScopedState → ScopedState
kept m t s = record s { macros = record { meaning = m; frames = t.env; rules = t.rules } ∷ s.macros }

abbrev pub with_macros : UnitScope → code_macros.Macros → UnitScope
with_macros u ms = record u { macros = ms }

-- the next use of the form was begun, of a macro of this scope
abbrev pub with_use_begun : UnitScope → ℕ → UnitScope
with_use_begun u scope = record u {
  env = with_use u.env (record { unit = u.unit; form = u.form.number; count = u.form.budget.uses }) scope;
  form = record u.form { budget = record u.form.budget { uses = u.form.budget.uses + 1 } };
}

abbrev pub used : Frames → ScopedState → ScopedState
used fs s = record s { uses = at_form s.form suc s.uses; places = record { use_number = next_number s s.uses; frames = fs } ∷ s.places }

-- ---- definitions of the unit

-- the unit's own scope binds an identifier to its definition
abbrev pub with_definition : UnitScope → ℕ → BTreeMap ℕ Bool → UnitScope
with_definition u ident defined = record u { env = with_bound u.env u.root ident (Global u.unit ident); defined = defined }

-- the form at work tells what it defines
abbrev pub own_binder : UnitScope → NamePart → code_binder.Binder
own_binder u name = record { number = btree_map_len u.defined; ident = name.ident; occ = name.occ }

abbrev pub with_told : UnitScope → NamePart → UnitScope
with_told u name = record u { form = record u.form { trace = record u.form.trace { definitions = u.form.trace.definitions ++ own_binder u name ∷ [] } } }

abbrev pub defined_here : Identifier → Option Occ → Bool → ScopedState → ScopedState
defined_here i occ keyword s = record s { table = record { unit = s.unit; form = s.form; ident = i; keyword = keyword; occ = occ } ∷ s.table }

-- ---- forms

-- work goes to this form
abbrev pub turned : ℕ → ScopedState → ScopedState
turned n s = record s { form = n }

-- the form has counted, met and defined nothing yet
pub record IsFresh (s : ScopedState) (n : ℕ) : Type 0 where
  pub locals : s.locals n ≡ 0
  pub uses : s.uses n ≡ 0
  pub nodes : s.nodes n ≡ 0
  pub keywords : s.keywords n ≡ []
  pub met : s.met n ≡ []
  pub definitions : numbered_in s.unit n s.table ≡ []
