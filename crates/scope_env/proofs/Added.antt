-- An environment with a binding more, where one is given: its scopes, and what they bind.
use Rattle.std.proofs.Common.{◌≡◌, ℕ, Bool, true, false, cond, length, slice_get, Option, Some, None, refl, sym, ap, ◌∙◌}
use Rattle.std.specs.Ordering.{nat_cmp, eq_by_cmp}
use Rattle.std.specs.Cmp.{nat_cmp_total, Equal-is, tied_itself}
use Rattle.std.specs.FinMap.{get, nat_cmp-IsAntisymmetric, get-insert}
use Rattle.std.specs.Option.{option_map, option_and_then}
use Rattle.syntax_tree.specs.declared.meaning.Meaning.{Meaning}
use Rattle.scheme_model.specs.Identifiers.{Number}
use Rattle.scope_env.specs.declared.env.Bound.{Bound}
use Rattle.scope_env.specs.Environment.{Environment, Scope, IsSound, with_bound, with_added, bound_in}
use Rattle.scope_env.specs.Resolved.{bound_at}
use Rattle.scope_env.proofs.Places.{length-changed_at, changed_here, changed_there, changed_to}
use Rattle.scope_env.proofs.Changes.{sound_bound, same_parent}

-- ---- scopes, uses and roots

pub sound_with : (env : Environment) (added : Option Bound) → IsSound env → IsSound (with_added env added)
sound_with env None sound = sound
sound_with env (Some b) sound = sound_bound env b.scope b.ident b.meaning sound

pub counted_with : (env : Environment) (added : Option Bound) → length (with_added env added).scopes ≡ length env.scopes
counted_with env None = refl
counted_with env (Some b) = length-changed_at (bound_in b.ident b.meaning) env.scopes b.scope

pub uses_with : (env : Environment) (added : Option Bound) (k : Number) → get (with_added env added).uses k ≡ get env.uses k
uses_with env None k = refl
uses_with env (Some b) k = refl

pub roots_with : (env : Environment) (added : Option Bound) (u : ℕ) → get (with_added env added).roots u ≡ get env.roots u
roots_with env None u = refl
roots_with env (Some b) u = refl

-- a scope stays inside the same one
pub scope_with : (env : Environment) (added : Option Bound) (n : ℕ) (s : Scope) → slice_get env.scopes n ≡ Some s → (t : Scope) × (slice_get (with_added env added).scopes n ≡ Some t) × (t.parent ≡ s.parent)
scope_with env None n s at = (s, at, refl)
scope_with env (Some b) n s at =
    let t = changed_to (bound_in b.ident b.meaning) env.scopes b.scope n s at in
    (t.0, t.1, same_parent b.ident b.meaning (n ≡ b.scope) s t.0 t.2)

-- ---- what a scope itself binds

module _ (env : Environment) (b : Bound) (s : Scope) where
  abbrev added_to : ℕ → Option Meaning
  added_to ident = bound_at (with_bound env b.scope b.ident b.meaning) b.scope ident

  put : slice_get env.scopes b.scope ≡ Some s → (ident : ℕ) → added_to ident ≡ cond (eq_by_cmp nat_cmp ident b.ident) (Some b.meaning) (get s.bound ident)
  put at ident =
      ap (λ (o : Option Scope). option_and_then (λ (t : Scope). get t.bound ident) o) (changed_here (bound_in b.ident b.meaning) env.scopes b.scope ∙ ap (λ (o : Option Scope). option_map (bound_in b.ident b.meaning) o) at)
      ∙ get-insert nat_cmp_total s.bound b.ident b.meaning ident

  -- this identifier
  put_here : slice_get env.scopes b.scope ≡ Some s → added_to b.ident ≡ Some b.meaning
  put_here at = put at b.ident ∙ ap (λ (c : Bool). cond c (Some b.meaning) (get s.bound b.ident)) ((Equal-is (nat_cmp b.ident b.ident)).1 (tied_itself nat_cmp_total b.ident))

  by_test : (c : Bool) (o : Option Meaning) → (c ≡ true → ⊥) → cond c (Some b.meaning) o ≡ o
  by_test true o h = absurd (h refl)
  by_test false o h = refl

  -- another
  put_beside : slice_get env.scopes b.scope ≡ Some s → (ident : ℕ) → (ident ≡ b.ident → ⊥) → added_to ident ≡ get s.bound ident
  put_beside at ident other =
      put at ident ∙ by_test (eq_by_cmp nat_cmp ident b.ident) (get s.bound ident) (λ same. other (nat_cmp-IsAntisymmetric ident b.ident ((Equal-is (nat_cmp ident b.ident)).0 same)))

-- what is asked is what is added
pub added_here : (env : Environment) (b : Bound) (n ident : ℕ) (s : Scope) → slice_get env.scopes n ≡ Some s → b.scope ≡ n → b.ident ≡ ident → bound_at (with_bound env b.scope b.ident b.meaning) n ident ≡ Some b.meaning
added_here env b n ident s at same_scope same_ident =
    (λ j. bound_at (with_bound env b.scope b.ident b.meaning) (sym same_scope j) (sym same_ident j))
    ∙ put_here env b s (ap (λ (m : ℕ). slice_get env.scopes m) same_scope ∙ at)

-- another scope is asked
pub added_elsewhere : (env : Environment) (b : Bound) (n ident : ℕ) (s : Scope) → slice_get env.scopes n ≡ Some s → (n ≡ b.scope → ⊥) → bound_at (with_bound env b.scope b.ident b.meaning) n ident ≡ get s.bound ident
added_elsewhere env b n ident s at other =
    ap (λ (o : Option Scope). option_and_then (λ (t : Scope). get t.bound ident) o) (changed_there (bound_in b.ident b.meaning) env.scopes b.scope n other ∙ at)

-- or another identifier
pub added_beside : (env : Environment) (b : Bound) (n ident : ℕ) (s : Scope) → slice_get env.scopes n ≡ Some s → b.scope ≡ n → (ident ≡ b.ident → ⊥) → bound_at (with_bound env b.scope b.ident b.meaning) n ident ≡ get s.bound ident
added_beside env b n ident s at same other =
    ap (λ (m : ℕ). bound_at (with_bound env b.scope b.ident b.meaning) m ident) (sym same)
    ∙ put_beside env b s (ap (λ (m : ℕ). slice_get env.scopes m) same ∙ at) ident other

-- nothing is added
pub nothing_added : (env : Environment) (n ident : ℕ) (s : Scope) → slice_get env.scopes n ≡ Some s → bound_at env n ident ≡ get s.bound ident
nothing_added env n ident s at = ap (λ (o : Option Scope). option_and_then (λ (t : Scope). get t.bound ident) o) at
