-- What changes of an environment do to what it stands for.
use Rattle.std.specs.Prelude.{◌≡◌, ℕ, [], ◌∷◌, ◌==◌, nat_eq, Bool, false, ◌&&◌, ◌||◌, Option, Some, None, slice_get, if◌then◌else◌}
use Rattle.std.specs.Option.{option_and_then}
use Rattle.std.specs.FinMap.{get}
use Rattle.std.specs.List.{list_any}
use Rattle.scheme_model.specs.Identifiers.{Number, same_number}
use Rattle.scheme_model.specs.Ident.{Ident as Identifier, Written, Inserted, same_ident}
use Rattle.scheme_model.specs.Meaning.{Meaning}
use Rattle.scheme_model.specs.Scopes.{Bound, Chain, Uses, Own}
use Rattle.syntax_tree.specs.Names.{Names}
use Rattle.syntax_tree.specs.Macros.{IsIdent}
use Rattle.scope_env.specs.Environment.{Environment, Scope}
use Rattle.scope_env.specs.Resolved.{path}

-- the scope around a scope: a local one has one
abbrev pub parent_of : Environment → ℕ → Option ℕ
parent_of env n = option_and_then (λ (s : Scope). s.parent) (slice_get env.scopes n)

-- a scope is this one or around it
abbrev pub is_around : Environment → ℕ → ℕ → Bool
is_around env scope n = list_any (nat_eq scope) (path env n)

-- with the binders around the macro of one use more
abbrev pub with_use_under : Uses → Number → Chain → Uses
with_use_under uses k c l = if same_number k l then c else uses l

-- with one binder more around the macros whose uses were noted with this scope
abbrev pub is_at : Option ℕ → ℕ → Bool
is_at None scope = false
is_at (Some n) scope = n == scope

abbrev pub with_binder : Environment → ℕ → Bound → Uses → Uses
with_binder env scope b uses k = if is_at (get env.uses k) scope then b ∷ uses k else uses k

-- with one identifier more that a unit gives
abbrev pub with_given : Own → ℕ → Identifier → Meaning → Own
with_given given u i m v j = if u == v && same_ident i j then Some m else given v j

-- a use inserted an identifier, or one inside it
abbrev pub has_use : Number → Identifier → Bool
has_use k (Written u s) = false
has_use k (Inserted i l) = same_number k l || has_use k i

-- ---- tables that grow

-- an identifier is in the table
abbrev pub IsNamed : Names → Identifier → Type 0
IsNamed names i = (n : ℕ) × IsIdent names n i

-- so is each that a chain binds, and each that units give
abbrev pub AreNamed : Names → Chain → Type 0
AreNamed names [] = Unit {0}
AreNamed names (b ∷ bs) = IsNamed names b.ident × AreNamed names bs

abbrev pub AreGivenNamed : Names → Own → Type 0
AreGivenNamed names given = (u : ℕ) (i : Identifier) (m : Meaning) → given u i ≡ Some m → IsNamed names i
