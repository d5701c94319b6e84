-- What the fields of an environment answer.
use Rattle.std.proofs.Common.{◌≡◌, ℕ, ◌<◌, List, map, length, slice_get, get_or, Option, Some, None, refl, sym, ap, ◌∙◌, arith, nat_cmp}
use Rattle.std.specs.BTreeMap as tree
use Rattle.std.specs.BTreeMap.{BTreeMap}
use Rattle.std.specs.FinMap.{get, from_entries}
use Rattle.std.specs.Option.{option_map, option_and_then}
use Rattle.std.proofs.lemmas.List.{length-map}
use Rattle.std.proofs.lemmas.Option.{slice_get_within, slice_get_read, slice_get-map}
use Rattle.syntax_tree.specs.Numbered.{number_of}
use Rattle.syntax_tree.proofs.Places.{get_within}
use Rattle.syntax_tree.specs.declared.meaning.Meaning.{Meaning}
use Rattle.syntax_tree.specs.declared.symbols.UseNo.{UseNo}
use Rattle.syntax_tree.specs.contracts.symbols.UseNoOrd.TheImpl.{cmp-value}
use Rattle.scope_env.specs.declared.env.Scope as kept
use Rattle.scope_env.specs.declared.env.Bound.{Bound}
use Rattle.scope_env.specs.Environment.{Environment, Scope, IsSound, with_added}
use Rattle.scope_env.specs.Kept.{scope_of, environment_of}
use Rattle.scope_env.specs.Resolved.{local, bound_at, own}
use Rattle.scope_env.proofs.Orders.{get_plain, get_uses}
use Rattle.scope_env.proofs.Locals.{outwards, local_is}
use Rattle.scope_env.proofs.Added.{sound_with, roots_with, scope_with}

scope_seen : (ss : List kept.Scope) (n : ℕ) (s : kept.Scope) → slice_get ss n ≡ Some s → slice_get (map scope_of ss) n ≡ Some (scope_of s)
scope_seen ss n s at = slice_get-map scope_of ss n ∙ ap (λ (o : Option kept.Scope). option_map scope_of o) at

-- a scope that is there
pub within_there : (env : Environment) (n : ℕ) → n < length env.scopes → (s : Scope) × (slice_get env.scopes n ≡ Some s)
within_there env n within = get_within env.scopes n within

module _ (ss : List kept.Scope) (uses : BTreeMap UseNo ℕ) (roots : BTreeMap ℕ ℕ) (env : Environment) (seen : environment_of ss uses.entries roots.entries ≡ env) where
  pub scope_there : (n : ℕ) (s : kept.Scope) → slice_get ss n ≡ Some s → slice_get env.scopes n ≡ Some (scope_of s)
  scope_there n s at = ap (λ (e : Environment). slice_get e.scopes n) (sym seen) ∙ scope_seen ss n s at

  pub scopes_counted : length env.scopes ≡ length ss
  scopes_counted = ap (λ (e : Environment). length e.scopes) (sym seen) ∙ length-map ss scope_of

  pub read_there : (n : ℕ) (s : kept.Scope) → n < length env.scopes → s ≡ get_or ss n s → slice_get ss n ≡ Some s
  read_there n s within is = slice_get_read ss (length ss) n s refl (omega (arith, scopes_counted)) is

  pub root_is : (u : ℕ) (o : Option ℕ) → o ≡ tree.get nat_cmp roots u → get env.roots u ≡ o
  root_is u o is = ap (λ (e : Environment). get e.roots u) (sym seen) ∙ get_plain roots u ∙ sym is

  pub use_is : (k : UseNo) (o : Option ℕ) → o ≡ tree.get cmp-value.it uses k → get env.uses (number_of k) ≡ o
  use_is k o is = ap (λ (e : Environment). get e.uses (number_of k)) (sym seen) ∙ get_uses uses k ∙ sym is

  -- what a scope itself binds
  pub bound_is : (n ident : ℕ) (s : kept.Scope) (o : Option Meaning) → o ≡ tree.get nat_cmp s.bound ident → get (from_entries {R = nat_cmp} s.bound.entries) ident ≡ o
  bound_is n ident s o is = get_plain s.bound ident ∙ sym is

  -- a unit's own scope
  pub root_within : IsSound env → (u n : ℕ) → Some n ≡ tree.get nat_cmp roots u → n < length env.scopes
  root_within sound u n is =
      let o = sound.roots u n (root_is u (Some n) is) in slice_get_within env.scopes n o.scope o.there

  module _ (added : Option Bound) where
    abbrev now : Environment
    now = with_added env added

    pub own_none : (u ident : ℕ) → None ≡ tree.get nat_cmp roots u → own now u ident ≡ None
    own_none u ident none = ap (λ (o : Option ℕ). option_and_then (λ (r : ℕ). bound_at now r ident) o) (roots_with env added u ∙ root_is u None none)

    pub own_is : (u n ident : ℕ) → Some n ≡ tree.get nat_cmp roots u → own now u ident ≡ bound_at now n ident
    own_is u n ident root = ap (λ (x : Option ℕ). option_and_then (λ (r : ℕ). bound_at now r ident) x) (roots_with env added u ∙ root_is u (Some n) root)

    -- a scope, and those around it
    module _ (sound : IsSound env) (n ident : ℕ) (s : kept.Scope) (at : slice_get ss n ≡ Some s) where
      asked : (parent : Option ℕ) (o : Option Meaning) → s.parent ≡ parent → o ≡ bound_at now n ident → local now (Some n) ident ≡ outwards parent o (λ p. local now (Some p) ident)
      asked parent o inside is =
          let t = scope_with env added n (scope_of s) (scope_there n s at) in
          let bound = ap (λ (x : Option Scope). option_and_then (λ (u : Scope). get u.bound ident) x) (sym t.1) ∙ sym is in
          local_is now (sound_with env added sound) ident n t.0 t.1
          ∙ (λ j. outwards ((t.2 ∙ inside) j) (bound j) (λ p. local now (Some p) ident))

      pub outermost : s.parent ≡ None → local now (Some n) ident ≡ None
      outermost is = asked None (bound_at now n ident) is refl

      pub binds : (p : ℕ) (m : Meaning) → s.parent ≡ Some p → Some m ≡ bound_at now n ident → local now (Some n) ident ≡ Some m
      binds p m inside is = asked (Some p) (Some m) inside is

      pub outwards_on : (p : ℕ) → s.parent ≡ Some p → None ≡ bound_at now n ident → local now (Some n) ident ≡ local now (Some p) ident
      outwards_on p inside none = asked (Some p) None inside none

  pub parent_older : IsSound env → (n : ℕ) (s : kept.Scope) → slice_get ss n ≡ Some s → (p : ℕ) → s.parent ≡ Some p → p < n
  parent_older sound n s at p inside = sound.older n p (scope_of s) (scope_there n s at) inside

-- from this scope on the walk has come so far
pub record Outward (env : Environment) (added : Option Bound) (from : Option ℕ) (at ident : ℕ) : Type 0 where
  pub within : at < length env.scopes
  pub same : local (with_added env added) from ident ≡ local (with_added env added) (Some at) ident
