-- The scopes of all units, as contracts see them (R7RS 3.1). A scope's number is its place in the list of scopes, and what it
-- binds are identifiers by their numbers.
use Rattle.std.specs.Prelude.{◌≡◌, ℕ, zero, suc, ◌<◌, List, [], ◌∷◌, ◌++◌, length, take, slice_get, Option, Some, None}
use Rattle.std.specs.declared.cmp.Ordering.{Ordering}
use Rattle.std.specs.Ordering.{nat_cmp, ordering_then}
use Rattle.std.specs.FinMap.{FinMap, empty, get, insert, remove}
use Rattle.scheme_model.specs.Identifiers.{Number}
use Rattle.syntax_tree.specs.declared.meaning.Meaning.{Meaning}
use Rattle.scope_env.specs.declared.env.Bound.{Bound}

-- by the unit, then the form, then the count
abbrev pub number_cmp : Number → Number → Ordering
number_cmp k l = ordering_then (nat_cmp k.unit l.unit) (ordering_then (nat_cmp k.form l.form) (nat_cmp k.count l.count))

-- what a scope binds
abbrev pub Bindings : Type 0
Bindings = FinMap nat_cmp Meaning

-- a scope: the one around it, and what it binds. A local scope has one around it, a unit's own has none
pub record Scope : Type 0 where
  pub parent : Option ℕ
  pub bound : Bindings

-- all scopes, the scope in which the macro of each use was defined, and each unit's own scope
pub record Environment : Type 0 where
  pub scopes : List Scope
  pub uses : FinMap number_cmp ℕ
  pub roots : FinMap nat_cmp ℕ

abbrev pub no_scopes : Environment
no_scopes = record { scopes = []; uses = empty; roots = empty }

-- ---- what calls add

-- a scope that binds nothing yet
abbrev pub new_scope : Option ℕ → Scope
new_scope parent = record { parent = parent; bound = empty }

abbrev pub with_child : Environment → ℕ → Environment
with_child env parent = record env { scopes = env.scopes ++ new_scope (Some parent) ∷ [] }

abbrev pub with_root : Environment → ℕ → Environment
with_root env unit = record env { scopes = env.scopes ++ new_scope None ∷ []; roots = insert env.roots unit (length env.scopes) }

abbrev pub with_use : Environment → Number → ℕ → Environment
with_use env k scope = record env { uses = insert env.uses k scope }

abbrev pub bound_in : ℕ → Meaning → Scope → Scope
bound_in ident meaning s = record s { bound = insert s.bound ident meaning }

-- with the item at a place changed
abbrev pub changed_at : {A : Type 0} → (A → A) → List A → ℕ → List A
changed_at f [] n = []
changed_at f (x ∷ xs) zero = f x ∷ xs
changed_at f (x ∷ xs) (suc n) = x ∷ changed_at f xs n

abbrev pub with_bound : Environment → ℕ → ℕ → Meaning → Environment
with_bound env scope ident meaning = record env { scopes = changed_at (bound_in ident meaning) env.scopes scope }

-- with a binding more, where one is given
abbrev pub with_added : Environment → Option Bound → Environment
with_added env None = env
with_added env (Some b) = with_bound env b.scope b.ident b.meaning

-- ---- what calls take back

-- an identifier is bound to this, or to nothing
abbrev pub bound_as : ℕ → Option Meaning → Scope → Scope
bound_as ident None = λ s. record s { bound = remove s.bound ident }
bound_as ident (Some meaning) = bound_in ident meaning

abbrev pub with_before : Environment → ℕ → ℕ → Option Meaning → Environment
with_before env scope ident before = record env { scopes = changed_at (bound_as ident before) env.scopes scope }

-- ---- what calls forget

-- without the scopes from a number on, and where the macros of uses were defined
abbrev pub without_locals : Environment → ℕ → Environment
without_locals env n = record env { scopes = take n env.scopes; uses = empty }

-- ---- what holds of every environment

-- a unit's own scope
pub record IsOwn (env : Environment) (n : ℕ) : Type 0 where
  pub scope : Scope
  pub there : slice_get env.scopes n ≡ Some scope
  pub outermost : scope.parent ≡ None

-- the scope around another is older, each scope that a use or a unit has is there, and no two units share one
pub record IsSound (env : Environment) : Type 0 where
  pub older : (n p : ℕ) (s : Scope) → slice_get env.scopes n ≡ Some s → s.parent ≡ Some p → p < n
  pub uses : (k : Number) (n : ℕ) → get env.uses k ≡ Some n → n < length env.scopes
  pub roots : (u n : ℕ) → get env.roots u ≡ Some n → IsOwn env n
  pub apart : (u v n : ℕ) → get env.roots u ≡ Some n → get env.roots v ≡ Some n → u ≡ v
