-- What an identifier means in a scope, by numbers (R7RS 4.3).
use Rattle.std.specs.Prelude.{ℕ, ◌==◌, List, [], ◌∷◌, reverse, length, slice_get, Option, Some, None, unwrap_or, if◌then◌else◌}
use Rattle.std.specs.Option.{option_or, option_and_then}
use Rattle.std.specs.List.{position_or_len}
use Rattle.std.specs.Str.{bytes_eq}
use Rattle.std.specs.FinMap.{get}
use Rattle.scheme_model.specs.Ident.{Ident as Identifier, Written, Inserted, same_ident}
use Rattle.syntax_tree.specs.Names.{Names}
use Rattle.syntax_tree.specs.Numbered.{number_of}
use Rattle.syntax_tree.specs.declared.symbols.UseNo.{UseNo}
use Rattle.syntax_tree.specs.declared.meaning.Meaning.{Meaning}
use Rattle.syntax_tree.specs.declared.meaning.Meaning.TheVariants.{Free}
use Rattle.scope_env.specs.Environment.{Environment, Scope}

-- the number of an identifier, and of a symbol
abbrev pub number_in : Names → Identifier → ℕ
number_in names i = position_or_len (same_ident i) names.idents

abbrev pub symbol_in : Names → List ℕ → ℕ
symbol_in names s = position_or_len (bytes_eq s) names.symbols

-- ---- from a scope outwards

abbrev pub around : Option ℕ → (ℕ → List ℕ) → List ℕ
around None path = []
around (Some parent) path = path parent

-- a scope and those around it, by their numbers; of the scopes the newest comes first
abbrev pub path_in : List Scope → ℕ → List ℕ
path_in [] n = []
path_in (s ∷ older) n = if n == length older then n ∷ around s.parent (λ p. path_in older p) else path_in older n

abbrev pub path : Environment → ℕ → List ℕ
path env n = path_in (reverse env.scopes) n

-- what a local scope binds; a unit's own scope isn't asked
abbrev pub bound_locally : Scope → ℕ → Option Meaning
bound_locally s ident = option_and_then (λ (parent : ℕ). get s.bound ident) s.parent

abbrev pub local_at : Environment → ℕ → ℕ → Option Meaning
local_at env n ident = option_and_then (λ (s : Scope). bound_locally s ident) (slice_get env.scopes n)

-- the first of these scopes that is local and binds the identifier
abbrev pub innermost : Environment → List ℕ → ℕ → Option Meaning
innermost env [] ident = None
innermost env (n ∷ ns) ident = option_or (local_at env n ident) (innermost env ns ident)

-- the innermost local scope that binds an identifier, from a scope outwards; from nowhere on there is none
abbrev pub local : Environment → Option ℕ → ℕ → Option Meaning
local env None ident = None
local env (Some scope) ident = innermost env (path env scope) ident

-- the scope that a walk is in which set out from a scope: that of the last use that it went through, where there is one
abbrev pub reached : Environment → ℕ → Option UseNo → Option ℕ
reached env start None = Some start
reached env start (Some k) = get env.uses (number_of k)

-- ---- meanings

-- what a scope itself binds
abbrev pub bound_at : Environment → ℕ → ℕ → Option Meaning
bound_at env scope ident = option_and_then (λ (s : Scope). get s.bound ident) (slice_get env.scopes scope)

-- what a unit's own scope binds
abbrev pub own : Environment → ℕ → ℕ → Option Meaning
own env unit ident = option_and_then (λ (n : ℕ). bound_at env n ident) (get env.roots unit)

-- the innermost local scope decides, then the own scope of the unit; else a written symbol is free, and what a use inserted
-- means what it means in the scope of the use
abbrev pub resolved : Environment → Names → Option ℕ → Identifier → Meaning
resolved env names scope (Written u s) =
    unwrap_or (option_or (local env scope (number_in names (Written u s))) (own env u (number_in names (Written u s)))) (Free (symbol_in names s))
resolved env names scope (Inserted i k) =
    unwrap_or (option_or (local env scope (number_in names (Inserted i k))) (own env k.unit (number_in names (Inserted i k)))) (resolved env names (get env.uses k) i)
