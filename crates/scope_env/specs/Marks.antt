-- Identifiers that are marked by their numbers, and that all that scopes bind are.
use Rattle.std.specs.Prelude.{◌≡◌, ℕ, Bool, false, Option, Some, None, slice_get, unwrap_or}
use Rattle.std.specs.FinMap.{get}
use Rattle.scope_env.specs.declared.marks.Marks as code
use Rattle.scope_env.specs.Environment.{Environment, Scope, IsSound}

abbrev pub marked : code.Marks → ℕ → Bool
marked marks n = unwrap_or (slice_get marks.marks.items n) false

-- local scopes, which have one around them, mark apart from units' own
abbrev pub marked_for : code.Marks → code.Marks → Option ℕ → ℕ → Bool
marked_for locals owns None n = marked owns n
marked_for locals owns (Some parent) n = marked locals n

-- an environment, and what is marked of it
pub record IsKept (env : Environment) (locals owns : code.Marks) : Type 0 where
  pub sound : IsSound env
  pub unmarked : (n ident : ℕ) (s : Scope) → slice_get env.scopes n ≡ Some s → marked_for locals owns s.parent ident ≡ false → get s.bound ident ≡ None
