-- A layout with one scope more, and a newest scope with one binder more.
use Rattle.std.proofs.Common.{◌≡◌, ℕ, ◌+◌, ◌<◌, List, [], ◌∷◌, ◌++◌, length, slice_get, false, Option, Some, None, inl, inr, refl, sym, ap, ◌∙◌, subst, arith}
use Rattle.std.specs.FinMap as map
use Rattle.std.specs.Option.{option_and_then}
use Rattle.std.proofs.lemmas.List.{length-append}
use Rattle.std.proofs.lemmas.Option.{slice_get_within}
use Rattle.scheme_model.specs.Identifiers.{Number}
use Rattle.scheme_model.specs.Ident.{Ident as Identifier}
use Rattle.scheme_model.specs.Order.{Transformer}
use Rattle.scheme_model.specs.ScopedExpansion.{Bind, Frames, ScopedState, around}
use Rattle.syntax_tree.specs.Names.{Names, AreToldApart}
use Rattle.syntax_tree.specs.Macros.{IsIdent}
use Rattle.syntax_tree.specs.declared.meaning.Meaning.{Meaning}
use Rattle.syntax_tree.specs.declared.meaning.Meaning.TheVariants.{Local}
use Rattle.syntax_tree.specs.declared.trees.Work.{Work}
use Rattle.syntax_tree.proofs.Places.{none_some, get_front, get_same, get_next, push_cases}
use Rattle.scope_env.specs.Environment.{Environment, Scope, IsSound, new_scope, with_child, with_bound, bound_in}
use Rattle.scope_env.specs.Standing.{StandsFor}
use Rattle.scope_env.specs.Moved.{parent_of, is_around, AreNamed}
use Rattle.scope_env.proofs.Places.{changed_to, length-changed_at}
use Rattle.scope_env.proofs.Changes.{same_parent}
use Rattle.scope_env.proofs.StandingLaws.{child_stands, child_beside, child_env, apart_stands, bound_stands, local_bound_env}
use Rattle.scope_env.proofs.AroundLaws.{older_apart, child_parent}
use Rattle.unit_scopes.specs.Chains.{chain_in, uses_in, given_in}
use Rattle.unit_scopes.specs.State.{AreBegun, HasBegun, AreEntered, EnvStands, IsMacroIfAny, Stands}
use Rattle.unit_scopes.specs.declared.macros.Macro.{Macro}
use Rattle.unit_scopes.specs.declared.scope.UnitScope.{UnitScope}

-- ---- a scope keeps the one around it

scope_there : (e : Environment) (n p : ℕ) (o : Option Scope) → slice_get e.scopes n ≡ o → option_and_then (λ (s : Scope). s.parent) o ≡ Some p → (s : Scope) × (slice_get e.scopes n ≡ Some s) × (s.parent ≡ Some p)
scope_there e n p None at is = none_some p is
scope_there e n p (Some s) at is = (s, at, is)

pub parent_bound : (e : Environment) (at ident : ℕ) (m : Meaning) (n p : ℕ) → parent_of e n ≡ Some p → parent_of (with_bound e at ident m) n ≡ Some p
parent_bound e at ident m n p inside =
    let s = scope_there e n p (slice_get e.scopes n) refl inside in
    let t = changed_to (bound_in ident m) e.scopes at n s.0 s.1 in
    ap (λ (o : Option Scope). option_and_then (λ (x : Scope). x.parent) o) t.1 ∙ (same_parent ident m (n ≡ at) s.0 t.0 t.2 ∙ s.2)

parent_child : (e : Environment) (parent n p : ℕ) → parent_of e n ≡ Some p → parent_of (with_child e parent) n ≡ Some p
parent_child e parent n p inside =
    let s = scope_there e n p (slice_get e.scopes n) refl inside in
    ap (λ (o : Option Scope). option_and_then (λ (x : Scope). x.parent) o) (get_front e.scopes (new_scope (Some parent) ∷ []) n s.0 s.1) ∙ s.2

-- ---- a new scope inside another

module _ (names : Names) (env : Environment) (sound : IsSound env) (ls : List Frames) (s : ScopedState) (e : EnvStands names env ls s) where
  within_env : (n : ℕ) (fs : Frames) → slice_get ls n ≡ Some fs → n < length env.scopes
  within_env n fs at = subst (λ (len : ℕ). n < len) e.count (slice_get_within ls n fs at)

  -- it stands for frames that add no binder to those of its parent
  pub child_env_stands : (parent : ℕ) (fs gs : Frames) → slice_get ls parent ≡ Some fs → chain_in s gs ≡ chain_in s fs → AreEntered s gs → EnvStands names (with_child env parent) (ls ++ gs ∷ []) s
  child_env_stands parent fs gs at same entered =
      let new = with_child env parent in
      let within = within_env parent fs at in
      let here : StandsFor names new (Some (length env.scopes)) (chain_in s fs) = child_stands names env parent sound within (chain_in s fs) (e.scopes parent fs at) in
      record {
        count = length-append ls (gs ∷ []) ∙ (ap (λ n. n + 1) e.count ∙ sym (length-append env.scopes (new_scope (Some parent) ∷ [])));
        scopes = λ n hs there. elim (push_cases ls gs n hs there) [
          | inl old ↦ child_beside names env parent sound within (chain_in s hs) n (within_env n hs old) (e.scopes n hs old)
          | inr last ↦ subst (λ (m : ℕ). StandsFor names new (Some m) (chain_in s hs)) (sym (last.0 ∙ e.count)) (subst (λ c. StandsFor names new (Some (length env.scopes)) c) (sym (ap (chain_in s) last.1 ∙ same)) here)
        ];
        given = child_env names env parent sound within (given_in s) (uses_in s) e.given;
        noted = λ k n is. get_front ls (gs ∷ []) n (around s.places k) (e.noted k n is);
        unnoted = e.unnoted;
        inside = λ n f hs there. elim (push_cases ls gs n (f ∷ hs) there) [
          | inl old ↦ let p = e.inside n f hs old in (p.0, parent_child env parent n p.0 p.1)
          | inr last ↦ (parent, subst (λ (m : ℕ). parent_of new m ≡ Some parent) (sym (last.0 ∙ e.count)) (child_parent env parent))
        ];
        entered = λ n hs there. elim (push_cases ls gs n hs there) [
          | inl old ↦ e.entered n hs old
          | inr last ↦ subst (AreEntered s) (sym last.1) entered
        ];
        defined = e.defined;
        named = λ n hs there. elim (push_cases ls gs n hs there) [
          | inl old ↦ e.named n hs old
          | inr last ↦ subst (AreNamed names) (sym (ap (chain_in s) last.1 ∙ same)) (e.named parent fs at)
        ];
        given_named = e.given_named;
      }

-- ---- one binder more in the newest scope, before a use is noted with it

module _ (names : Names) (apart : AreToldApart names.idents) (s : ScopedState) (older : List Frames) (at : ℕ) (newest : at ≡ length older) where
  pub bound_env_stands : (env : Environment) (fs : Frames) (p ident : ℕ) (i : Identifier) (v : Number) → IsSound env → parent_of env at ≡ Some p → ((k : Number) (n : ℕ) → map.get env.uses k ≡ Some n → n < at) → IsIdent names ident i →
      EnvStands names env (older ++ fs ∷ []) s → EnvStands names (with_bound env at ident (Local v.count)) (older ++ (Bind i v ∷ fs) ∷ []) s
  bound_env_stands env fs p ident i v sound inside unused is e =
      let m = Local v.count in
      let new = with_bound env at ident m in
      let gs = Bind i v ∷ fs in
      let below : (n : ℕ) → n < length older → n < length env.scopes = λ n lt. omega (arith, lt, e.count, length-append older (fs ∷ [])) in
      let beside : (n : ℕ) → n < length older → is_around env at n ≡ false = λ n lt. older_apart env at sound n (omega (arith, lt, newest)) (below n lt) in
      let before : slice_get (older ++ fs ∷ []) (length older) ≡ Some fs = get_next older [] fs in
      let here : StandsFor names new (Some at) (chain_in s gs) =
      bound_stands names env at ident p i v (chain_in s fs) sound apart is inside (subst (λ (n : ℕ). StandsFor names env (Some n) (chain_in s fs)) (sym newest) (e.scopes (length older) fs before)) in
      record {
        count = length-append older (gs ∷ []) ∙ (sym (length-append older (fs ∷ [])) ∙ (e.count ∙ sym (length-changed_at (bound_in ident m) env.scopes at)));
        scopes = λ n hs there. elim (push_cases older gs n hs there) [
          | inl old ↦ let lt = slice_get_within older n hs old in apart_stands names env at ident m sound (chain_in s hs) n (below n lt) (beside n lt) (e.scopes n hs (get_front older (fs ∷ []) n hs old))
          | inr last ↦ subst (λ (k : ℕ). StandsFor names new (Some k) (chain_in s hs)) (newest ∙ sym last.0) (subst (λ (x : Frames). StandsFor names new (Some at) (chain_in s x)) (sym last.1) here)
        ];
        given = local_bound_env names env at ident p m (given_in s) (uses_in s) sound inside (λ k n noted. beside n (omega (arith, unused k n noted, newest))) e.given;
        noted = λ k n is. let lt : n < length older = omega (arith, unused k n is, newest) in get_same older (gs ∷ []) n lt ∙ (sym (get_same older (fs ∷ []) n lt) ∙ e.noted k n is);
        unnoted = e.unnoted;
        inside = λ n f hs there. elim (push_cases older gs n (f ∷ hs) there) [
          | inl old ↦ let q = e.inside n f hs (get_front older (fs ∷ []) n (f ∷ hs) old) in (q.0, parent_bound env at ident m n q.0 q.1)
          | inr last ↦ (p, subst (λ (k : ℕ). parent_of new k ≡ Some p) (newest ∙ sym last.0) (parent_bound env at ident m at p inside))
        ];
        entered = λ n hs there. elim (push_cases older gs n hs there) [
          | inl old ↦ e.entered n hs (get_front older (fs ∷ []) n hs old)
          | inr last ↦ subst (AreEntered s) (sym last.1) (e.entered (length older) fs before)
        ];
        defined = e.defined;
        named = λ n hs there. elim (push_cases older gs n hs there) [
          | inl old ↦ e.named n hs (get_front older (fs ∷ []) n hs old)
          | inr last ↦ subst (λ (x : Frames). AreNamed names (chain_in s x)) (sym last.1) ((ident, is), e.named (length older) fs before)
        ];
        given_named = e.given_named;
      }

-- ---- the whole, with one scope more

pub if_any_stays : (work : Work) (ls : List Frames) (gs : Frames) (o : Option Macro) (p : Option (Transformer Frames Identifier)) → IsMacroIfAny work ls o p → IsMacroIfAny work (ls ++ gs ∷ []) o p
if_any_stays work ls gs None None h = h
if_any_stays work ls gs None (Some m) h = h
if_any_stays work ls gs (Some k) None h = h
if_any_stays work ls gs (Some k) (Some m) h = record { scope = get_front ls (gs ∷ []) k.scope m.env h.scope; checked = h.checked; rules = h.rules; leaves = h.leaves }

pub scope_more : (work : Work) (u : UnitScope) (env : Environment) (ls : List Frames) (gs : Frames) (s : ScopedState) → env.roots ≡ u.env.roots → AreBegun u.env.roots gs → EnvStands work.symbols env (ls ++ gs ∷ []) s → Stands work u ls s → Stands work (record u { env = env }) (ls ++ gs ∷ []) s
scope_more work u env ls gs s roots begun now e =
    let m = e.macros in
    record {
      unit = e.unit;
      program = e.program;
      env = now;
      macros = record {
        there = λ form c d is. if_any_stays work ls gs _ _ (m.there form c d is);
        idents = m.idents;
        symbols = m.symbols;
        free = m.free;
        known_idents = m.known_idents;
        known_symbols = m.known_symbols;
      };
      root = get_front ls (gs ∷ []) u.root [] e.root;
      own = ap (λ r. map.get r u.unit) roots ∙ e.own;
      begun = subst (λ r. HasBegun r (ls ++ gs ∷ []) s) (sym roots) (record {
        frames = λ n fs there. elim (push_cases ls gs n fs there) [ inl old ↦ e.begun.frames n fs old | inr last ↦ subst (AreBegun u.env.roots) (sym last.1) begun ];
        bodies = e.begun.bodies;
        macros = e.begun.macros;
      });
      form = e.form;
      defined = e.defined;
      known = e.known;
      count = e.count;
    }
