-- An environment without the scopes from a number on.
use Rattle.std.proofs.Common.{◌≡◌, ℕ, zero, suc, ◌<◌, List, [], ◌∷◌, map, take, length, slice_get, Option, Some, None, refl, sym, ap, ◌∙◌, subst, arith}
use Rattle.std.specs.Option.{option_map, option_and_then}
use Rattle.std.specs.FinMap.{get, get-empty, from_entries}
use Rattle.std.specs.Ordering.{nat_cmp}
use Rattle.std.specs.BTreeMap.{BTreeMap, IsEmpty}
use Rattle.scheme_model.specs.Ident.{Ident as Identifier}
use Rattle.scheme_model.specs.Identifiers.{Number}
use Rattle.scheme_model.specs.Scopes.{Chain, Uses, Own, found}
use Rattle.syntax_tree.specs.Names.{Names}
use Rattle.syntax_tree.specs.declared.meaning.Meaning.TheVariants as meanings
use Rattle.syntax_tree.specs.declared.symbols.UseNo.{UseNo}
use Rattle.syntax_tree.proofs.Places.{none_some, get_within}
use Rattle.scope_env.specs.declared.env.Scope as kept
use Rattle.scope_env.specs.declared.marks.Marks as code
use Rattle.scope_env.specs.Environment.{Environment, Scope, without_locals, number_cmp, IsSound}
use Rattle.scope_env.specs.Kept.{scope_of, environment_of, uses_of}
use Rattle.scope_env.specs.Marks.{IsKept}
use Rattle.scope_env.specs.Resolved.{local, bound_at, own}
use Rattle.scope_env.specs.Standing.{bound_by, StandsFor, Gives, EnvFor}
use Rattle.scope_env.proofs.Locals.{local_alike}

-- ---- the first of a list

first_at : {X : Type 0} (xs : List X) (k n : ℕ) (x : X) → n < k → slice_get xs n ≡ Some x → slice_get (take k xs) n ≡ Some x
first_at [] k n x lt at = none_some x at
first_at (y ∷ xs) zero n x lt at = absurd (omega (arith, lt))
first_at (y ∷ xs) (suc k) zero x lt at = at
first_at (y ∷ xs) (suc k) (suc n) x lt at = first_at xs k n x (omega (arith, lt)) at

first_is : {X : Type 0} (xs : List X) (k n : ℕ) (x : X) → slice_get (take k xs) n ≡ Some x → (n < k) × (slice_get xs n ≡ Some x)
first_is [] zero n x at = none_some x at
first_is [] (suc k) n x at = none_some x at
first_is (y ∷ xs) zero n x at = none_some x at
first_is (y ∷ xs) (suc k) zero x at = (omega arith, at)
first_is (y ∷ xs) (suc k) (suc n) x at = let h = first_is xs k n x at in let lt : n < k = h.0 in (omega (arith, lt), h.1)

first_mapped : {X Y : Type 0} (f : X → Y) (k : ℕ) (xs : List X) → map f (take k xs) ≡ take k (map f xs)
first_mapped f zero [] = refl
first_mapped f zero (x ∷ xs) = refl
first_mapped f (suc k) [] = refl
first_mapped f (suc k) (x ∷ xs) = ap (λ ys. f x ∷ ys) (first_mapped f k xs)

-- ---- it is sound

module _ (env : Environment) (from : ℕ) (sound : IsSound env) (roots : (u n : ℕ) → get env.roots u ≡ Some n → n < from) where
  abbrev left : Environment
  left = without_locals env from

  pub sound_forgotten : IsSound left
  sound_forgotten = record {
    older = λ n p s at is. sound.older n p s (first_is env.scopes from n s at).1 is;
    uses = λ k n at. none_some n (sym (get-empty number_cmp k) ∙ at);
    roots = λ u n at. let o = sound.roots u n at in record { scope = o.scope; there = first_at env.scopes from n o.scope (roots u n at) o.there; outermost = o.outermost };
    apart = sound.apart;
  }

  -- ---- it stands for what it did

  abbrev There : ℕ → Type 0
  There n = (n < from) × (n < length env.scopes)

  local_there : (ident n : ℕ) → There n → local left (Some n) ident ≡ local env (Some n) ident
  local_there ident n q =
      local_alike left env ident sound_forgotten sound There
      (λ m h. let s = get_within env.scopes m h.1 in (s.0, s.0, first_at env.scopes from m s.0 h.0 s.1, s.1, record { asked = λ around. refl }))
      (λ m p s h at is.
      let a = (first_is env.scopes from m s at).1 in
      let lt : p < m = sound.older m p s a is in
      let x : m < from = h.0 in
      let y : m < length env.scopes = h.1 in
      (omega (arith, lt, x), omega (arith, lt, y))) n q

  pub scope_forgotten : (names : Names) (c : Chain) (n : ℕ) → n < from → n < length env.scopes → StandsFor names env (Some n) c → StandsFor names left (Some n) c
  scope_forgotten names c n lt within h = λ m. local_there m n (lt, within) ∙ h m

  own_there : (u ident : ℕ) → own left u ident ≡ own env u ident
  own_there u ident = go (get env.roots u) refl
    where
      go : (o : Option ℕ) → get env.roots u ≡ o → option_and_then (λ (n : ℕ). bound_at left n ident) o ≡ option_and_then (λ (n : ℕ). bound_at env n ident) o
      go None e = refl
      go (Some n) e =
          let o = sound.roots u n e in
          ap (λ (x : Option Scope). option_and_then (λ (s : Scope). get s.bound ident) x) (first_at env.scopes from n o.scope (roots u n e) o.there ∙ sym o.there)

  none_bound : (names : Names) (n : ℕ) → None ≡ bound_by names [] n
  none_bound names n = go (slice_get names.idents n)
    where
      go : (o : Option Identifier) → None ≡ option_map (λ (v : Number). meanings.Local v.count) (option_and_then (found []) o)
      go None = refl
      go (Some i) = refl

  pub env_forgotten : (names : Names) (given : Own) (uses : Uses) → EnvFor names env given uses → EnvFor names left given (λ k. [])
  env_forgotten names given uses h = record {
    own = λ u n. subst (λ o. Gives names o (option_and_then (given u) (slice_get names.idents n))) (sym (own_there u n)) (h.own u n);
    uses = λ k n. ap (λ (o : Option ℕ). local left o n) (get-empty number_cmp k) ∙ none_bound names n;
  }

  pub kept_forgotten : (l o : code.Marks) → IsKept env l o → IsKept left l o
  kept_forgotten l o h = record {
    sound = sound_forgotten;
    unmarked = λ n ident s at is. h.unmarked n ident s (first_is env.scopes from n s at).1 is;
  }

-- ---- what the fields stand for

pub forgotten_seen : (ss new : List kept.Scope) (uses : List (UseNo × ℕ)) (m : BTreeMap UseNo ℕ) (roots : List (ℕ × ℕ)) (from : ℕ) → new ≡ take from ss → IsEmpty m → environment_of new m.entries roots ≡ without_locals (environment_of ss uses roots) from
forgotten_seen ss new uses m roots from is none =
    let scopes = ap (λ (l : List kept.Scope). map scope_of l) is ∙ first_mapped scope_of from ss in
    λ j. record { scopes = scopes j; uses = uses_of (none j); roots = from_entries {R = nat_cmp} roots }
