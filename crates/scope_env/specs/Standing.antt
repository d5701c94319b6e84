-- What the scopes of an environment stand for: the binders around a place, what units give, and where macros were defined.
use Rattle.std.specs.Prelude.{◌≡◌, ℕ, [], ◌∷◌, slice_get, Option, Some, None}
use Rattle.std.specs.Option.{option_map, option_and_then}
use Rattle.std.specs.FinMap.{get}
use Rattle.scheme_model.specs.Identifiers.{Number}
use Rattle.scheme_model.specs.Ident.{Ident as Identifier, Written, Inserted}
use Rattle.scheme_model.specs.Meaning.{Meaning, Local, Global, Standard, Free}
use Rattle.scheme_model.specs.Scopes.{Chain, Uses, found, Own}
use Rattle.syntax_tree.specs.Names.{Names}
use Rattle.syntax_tree.specs.Meant.{IsGivenMeaning}
use Rattle.syntax_tree.specs.declared.meaning.Meaning as code_meaning
use Rattle.syntax_tree.specs.declared.meaning.Meaning.TheVariants as code
use Rattle.scope_env.specs.Environment.{Environment}
use Rattle.scope_env.specs.Resolved.{local, own}

-- the innermost binder of the identifier of a number, as a local of the binder's count
abbrev pub bound_by : Names → Chain → ℕ → Option code_meaning.Meaning
bound_by names c n = option_map (λ (v : Number). code.Local v.count) (option_and_then (found c) (slice_get names.idents n))

-- the local scopes from this one outwards bind what the chain does
abbrev pub StandsFor : Names → Environment → Option ℕ → Chain → Type 0
StandsFor names env scope c = (n : ℕ) → local env scope n ≡ bound_by names c n

-- a unit's own scope binds to this what the unit gives under an identifier
abbrev pub Gives : Names → Option code_meaning.Meaning → Option Meaning → Type 0
Gives names None None = Unit {0}
Gives names None (Some m) = ⊥
Gives names (Some n) None = ⊥
Gives names (Some n) (Some m) = IsGivenMeaning names n m

-- each unit's own scope binds what the unit gives, and the scope of each use has around it what is around the use's macro
pub record EnvFor (names : Names) (env : Environment) (given : Own) (used : Uses) : Type 0 where
  pub own : (u n : ℕ) → Gives names (own env u n) (option_and_then (given u) (slice_get names.idents n))
  pub uses : (k : Number) → StandsFor names env (get env.uses k) (used k)

-- what a unit gives is no local
abbrev pub IsGiven : Option Meaning → Type 0
IsGiven None = Unit {0}
IsGiven (Some (Local v)) = ⊥
IsGiven (Some (Global u i)) = Unit {0}
IsGiven (Some (Standard s)) = Unit {0}
IsGiven (Some (Free s)) = Unit {0}

-- a binder of this form of this unit, where there is one
abbrev pub IsOfForm : ℕ → ℕ → Option Number → Type 0
IsOfForm unit form None = Unit {0}
IsOfForm unit form (Some v) = (v.unit ≡ unit) × (v.form ≡ form)

-- what binders bind an identifier to, here and where the macros of its uses were defined, are locals of this form
abbrev pub AreLocalsOf : ℕ → ℕ → Uses → Chain → Identifier → Type 0
AreLocalsOf unit form uses c (Written u s) = IsOfForm unit form (found c (Written u s))
AreLocalsOf unit form uses c (Inserted i k) = IsOfForm unit form (found c (Inserted i k)) × AreLocalsOf unit form uses (uses k) i

-- ---- when they are

-- all binders of a chain are of this form
abbrev pub AreOf : ℕ → ℕ → Chain → Type 0
AreOf unit form [] = Unit {0}
AreOf unit form (b ∷ bs) = IsOfForm unit form (Some b.binder) × AreOf unit form bs

-- and those around the macros of an identifier's uses
abbrev pub AreUsesOf : ℕ → ℕ → Uses → Identifier → Type 0
AreUsesOf unit form uses (Written u s) = Unit {0}
AreUsesOf unit form uses (Inserted i k) = AreOf unit form (uses k) × AreUsesOf unit form uses i
