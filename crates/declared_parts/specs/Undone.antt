-- Definitions of a unit that are taken back (R7RS 5.3): its scopes and macros are what they were.
use Rattle.std.specs.Prelude.{◌≡◌, ℕ, ◌+◌, ◌<◌, List, [], ◌∷◌, length, Bool, true, false, Some, None, if◌then◌else◌}
use Rattle.std.specs.BTreeMap.{get, btree_map_len}
use Rattle.std.specs.Ordering.{nat_cmp, is_eq}
use Rattle.syntax_tree.specs.declared.meaning.Meaning.{Meaning}
use Rattle.syntax_tree.specs.declared.meaning.Meaning.TheVariants.{Global}
use Rattle.scope_env.specs.Environment.{with_bound}
use Rattle.scope_env.specs.Resolved.{bound_at}
use Rattle.unit_scopes.specs.Macros.{macro_in, same_key}
use Rattle.unit_scopes.specs.declared.scope.UnitScope.{UnitScope}
use Rattle.declared_parts.specs.declared.undoing.Made.{Made}

-- the same unit is open, with the same libraries and notes
pub record SameRest (u v : UnitScope) : Type 0 where
  pub unit : v.unit ≡ u.unit
  pub kind : v.kind ≡ u.kind
  pub root : v.root ≡ u.root
  pub libraries : v.libraries ≡ u.libraries
  pub asked : v.asked ≡ u.asked

-- and it has the same scopes, definitions and macros
pub record IsBack (u v : UnitScope) : Type 0 where
  pub rest : SameRest u v
  pub env : v.env ≡ u.env
  pub defined : (n : ℕ) → get nat_cmp v.defined n ≡ get nat_cmp u.defined n
  pub count : btree_map_len v.defined ≡ btree_map_len u.defined
  pub macros : (form : ℕ) (m : Meaning) → macro_in v.macros form m ≡ macro_in u.macros form m

abbrev pub is_it : UnitScope → ℕ → ℕ → Meaning → Bool
is_it u ident form m = same_key form (Global u.unit ident) form m

-- a definition more, of what had neither a definition nor a macro
pub record Defines (u v : UnitScope) (x : Made) : Type 0 where
  pub rest : SameRest u v
  pub there : u.root < length u.env.scopes
  pub env : v.env ≡ with_bound u.env u.root x.ident (Global u.unit x.ident)
  pub before : x.before ≡ bound_at u.env u.root x.ident
  pub new : get nat_cmp u.defined x.ident ≡ None
  pub defined : (n : ℕ) → get nat_cmp v.defined n ≡ (if is_eq (nat_cmp x.ident n) then Some x.keyword else get nat_cmp u.defined n)
  pub count : btree_map_len v.defined ≡ btree_map_len u.defined + 1
  pub none : (form : ℕ) (m : Meaning) → is_it u x.ident form m ≡ true → macro_in u.macros form m ≡ None
  pub others : (form : ℕ) (m : Meaning) → is_it u x.ident form m ≡ false → macro_in v.macros form m ≡ macro_in u.macros form m
  pub plain : x.keyword ≡ false → (form : ℕ) (m : Meaning) → macro_in v.macros form m ≡ macro_in u.macros form m

-- these definitions, of which the last is the first of the list
abbrev pub AreDefined : UnitScope → UnitScope → List Made → Type 0
AreDefined u v [] = IsBack u v
AreDefined u v (x ∷ xs) = (t : UnitScope) × AreDefined u t xs × Defines t v x
