-- Binders of names, and the scope in which they are bound, as the code has them.
use Rattle.std.specs.Prelude.{◌≡◌, ℕ, ◌+◌, List, [], ◌∷◌, length}
use Rattle.syntax_tree.specs.declared.meaning.Meaning.TheVariants.{Local}
use Rattle.scope_env.specs.Environment.{Environment, with_child, with_bound}
use Rattle.core_forms.specs.declared.shape.NamePart.{NamePart}
use Rattle.core_tree.specs.declared.cores.Binder.{Binder}
use Rattle.unit_scopes.specs.declared.scope.UnitScope.{UnitScope}

abbrev pub local_binder : ℕ → NamePart → Binder
local_binder n name = record { number = n; ident = name.ident; occ = name.occ }

-- the next locals, in order
abbrev pub local_binders : ℕ → List NamePart → List Binder
local_binders n [] = []
local_binders n (name ∷ names) = local_binder n name ∷ local_binders (n + 1) names

-- so many locals are taken
abbrev pub with_locals : UnitScope → ℕ → UnitScope
with_locals u n = record u { form = record u.form { budget = record u.form.budget { locals = n } } }

-- names are bound to the next locals in a scope, one after another
abbrev pub with_names : Environment → ℕ → ℕ → List NamePart → Environment
with_names env scope n [] = env
with_names env scope n (name ∷ names) = with_names (with_bound env scope name.ident (Local n)) scope (n + 1) names

-- all this in a new scope inside another
pub record Binds (old new : UnitScope) (scope : ℕ) (names : List NamePart) (inner : ℕ) (binders : List Binder) : Type 0 where
  pub number : inner ≡ length old.env.scopes
  pub bound : binders ≡ local_binders old.form.budget.locals names
  pub after : new ≡ record (with_locals old (old.form.budget.locals + length names)) { env = with_names (with_child old.env scope) (length old.env.scopes) old.form.budget.locals names }
