-- A scope binds an identifier to what it bound it to before, or to nothing: what was bound since is undone.
use Rattle.std.proofs.Common.{◌≡◌, ℕ, zero, suc, ◌<◌, Bool, true, false, cond, List, [], ◌∷◌, set, slice_get, is_some, Option, Some, None, Result, Ok, Err, OnOk, OnErr, refl, sym, ap, ◌∙◌, subst, inl, inr}
use Rattle.std.specs.Prelude.{◌⊎◌}
use Rattle.std.specs.Ordering.{nat_cmp, eq_by_cmp}
use Rattle.std.specs.Cmp.{nat_cmp_total, Equal-is}
use Rattle.std.specs.BTreeMap.{is_at}
use Rattle.std.specs.BTreeMap as tree
use Rattle.std.specs.FinMap.{FinMap, get, insert, remove, from_entries, nat_cmp-IsAntisymmetric, get-insert, get-remove, same_map}
use Rattle.std.specs.Option.{option_and_then}
use Rattle.syntax_tree.specs.declared.meaning.Meaning.{Meaning}
use Rattle.syntax_tree.specs.declared.symbols.UseNo.{UseNo}
use Rattle.scope_env.specs.declared.env.Scope as kept
use Rattle.scope_env.specs.declared.marks.Marks as code
use Rattle.scope_env.specs.Environment.{Environment, Scope, bound_in, bound_as, changed_at, with_bound, with_before}
use Rattle.scope_env.specs.Kept.{scope_of, environment_of, uses_of}
use Rattle.scope_env.specs.Marks.{marked_for, IsKept}
use Rattle.scope_env.specs.Resolved.{bound_at}
use Rattle.scope_env.proofs.Places.{changed_from, changed_to, length-changed_at, map_set}
use Rattle.scope_env.proofs.Orders.{gone_plain}

-- ---- what the fields stand for

pub gone : (ss : List kept.Scope) (uses : List (UseNo × ℕ)) (roots : List (ℕ × ℕ)) (n ident : ℕ) (old new : kept.Scope) → slice_get ss n ≡ Some old → new.parent ≡ old.parent →
    ((q : ℕ) → tree.get nat_cmp new.bound q ≡ cond (is_at (nat_cmp ident) q) None (tree.get nat_cmp old.bound q)) → environment_of (set ss n new) uses roots ≡ with_before (environment_of ss uses roots) n ident None
gone ss uses roots n ident old new at parent taken =
    let entries = gone_plain old.bound new.bound ident taken in
    let scopes = map_set scope_of (bound_as ident None) ss n old new at (λ j. record { parent = parent j; bound = entries j }) in
    λ j. record { scopes = scopes j; uses = uses_of uses; roots = from_entries {R = nat_cmp} roots }

-- an insert at a key that is there doesn't fail
pub there_already : {T E P : Type 0} (r : Result T E) (o : Option Meaning) → is_some o ≡ true → OnOk r P → OnErr r (o ≡ None) → P
there_already (Ok x) o there ok err = ok
there_already (Err e) o there ok err = let never : false ≡ true = sym (ap is_some err) ∙ there in absurd cc

-- ---- the invariant

unbound_parent : (ident : ℕ) (P : Type 0) (x y : Scope) → (y ≡ x) ⊎ (P × (y ≡ bound_as ident None x)) → y.parent ≡ x.parent
unbound_parent ident P x y (inl e) = ap (λ (t : Scope). t.parent) e
unbound_parent ident P x y (inr h) = ap (λ (t : Scope). t.parent) h.1

none_left : (b : Bool) (o : Option Meaning) → o ≡ None → cond b None o ≡ None
none_left true o none = refl
none_left false o none = none

pub kept_unbound : (l o : code.Marks) (env : Environment) (scope ident : ℕ) → IsKept env l o → IsKept (with_before env scope ident None) l o
kept_unbound l o env scope ident h =
    let f = bound_as ident None in
    record {
      sound = record {
        older = λ n p s at is. let before = changed_from f env.scopes scope n s at in h.sound.older n p before.0 before.1 (sym (unbound_parent ident (n ≡ scope) before.0 s before.2) ∙ is);
        uses = λ k n at. subst (λ (len : ℕ). n < len) (sym (length-changed_at f env.scopes scope)) (h.sound.uses k n at);
        roots = λ u n at.
            let own = h.sound.roots u n at in
            let after = changed_to f env.scopes scope n own.scope own.there in
            record { scope = after.0; there = after.1; outermost = unbound_parent ident (n ≡ scope) own.scope after.0 after.2 ∙ own.outermost };
        apart = h.sound.apart;
      };
      unmarked = λ n q t at not. let before = changed_from f env.scopes scope n t at in by n q before.0 t before.1 before.2 not;
    }
  where
    by : (n q : ℕ) (s t : Scope) → slice_get env.scopes n ≡ Some s → (t ≡ s) ⊎ ((n ≡ scope) × (t ≡ bound_as ident None s)) → marked_for l o t.parent q ≡ false → get t.bound q ≡ None
    by n q s t at (inl same) not = ap (λ (u : Scope). get u.bound q) same ∙ h.unmarked n q s at (ap (λ (u : Scope). marked_for l o u.parent q) (sym same) ∙ not)
    by n q s t at (inr here) not =
        let none : get s.bound q ≡ None = h.unmarked n q s at (ap (λ (u : Scope). marked_for l o u.parent q) (sym here.1) ∙ not) in
        ap (λ (u : Scope). get u.bound q) here.1 ∙ (get-remove nat_cmp_total s.bound ident q ∙ none_left (eq_by_cmp nat_cmp q ident) (get s.bound q) none)

-- what a scope binds is marked
pub is_marked : (l o : code.Marks) (env : Environment) (scope ident : ℕ) → IsKept env l o → is_some (bound_at env scope ident) ≡ true → (s : Scope) → slice_get env.scopes scope ≡ Some s → marked_for l o s.parent ident ≡ true
is_marked l o env scope ident h bound s at = by (marked_for l o s.parent ident) refl
  where
    by : (b : Bool) → marked_for l o s.parent ident ≡ b → b ≡ true
    by true is = refl
    by false is =
        let none : bound_at env scope ident ≡ None = ap (λ (x : Option Scope). option_and_then (λ (t : Scope). get t.bound ident) x) at ∙ h.unmarked scope ident s at is in
        let never : false ≡ true = sym (ap is_some none) ∙ bound in absurd cc

-- ---- what was there before

tied : (b : Bool) (q ident : ℕ) (m : FinMap nat_cmp Meaning) (o x : Option Meaning) → eq_by_cmp nat_cmp q ident ≡ b → get m ident ≡ o → cond b o (cond b x (get m q)) ≡ get m q
tied true q ident m o x is here = let same : q ≡ ident = nat_cmp-IsAntisymmetric q ident ((Equal-is (nat_cmp q ident)).0 is) in sym here ∙ ap (get m) (sym same)
tied false q ident m o x is here = refl

map_back : (ident : ℕ) (v : Meaning) (m : FinMap nat_cmp Meaning) (before : Option Meaning) → get m ident ≡ before → (s : Scope) → s.bound ≡ m → bound_as ident before (bound_in ident v s) ≡ s
map_back ident v m None here s is =
    let same = same_map nat_cmp_total nat_cmp-IsAntisymmetric (remove (insert s.bound ident v) ident) s.bound
    (λ q. get-remove nat_cmp_total (insert s.bound ident v) ident q ∙ (ap (cond (eq_by_cmp nat_cmp q ident) None) (get-insert nat_cmp_total s.bound ident v q) ∙ tied (eq_by_cmp nat_cmp q ident) q ident s.bound None (Some v) refl (ap (λ n. get n ident) is ∙ here))) in
    λ j. record s { bound = same j }
map_back ident v m (Some w) here s is =
    let same = same_map nat_cmp_total nat_cmp-IsAntisymmetric (insert (insert s.bound ident v) ident w) s.bound
    (λ q. get-insert nat_cmp_total (insert s.bound ident v) ident w q ∙ (ap (cond (eq_by_cmp nat_cmp q ident) (Some w)) (get-insert nat_cmp_total s.bound ident v q) ∙ tied (eq_by_cmp nat_cmp q ident) q ident s.bound (Some w) (Some v) refl (ap (λ n. get n ident) is ∙ here))) in
    λ j. record s { bound = same j }

scopes_back : (ident : ℕ) (v : Meaning) (ss : List Scope) (n : ℕ) (before : Option Meaning) → option_and_then (λ (s : Scope). get s.bound ident) (slice_get ss n) ≡ before → changed_at (bound_as ident before) (changed_at (bound_in ident v) ss n) n ≡ ss
scopes_back ident v [] n before here = refl
scopes_back ident v (s ∷ ss) zero before here = ap (λ t. t ∷ ss) (map_back ident v s.bound before here s refl)
scopes_back ident v (s ∷ ss) (suc n) before here = ap (λ ts. s ∷ ts) (scopes_back ident v ss n before here)

-- an identifier that was bound is bound as before
pub put_back : (env : Environment) (scope ident : ℕ) (v : Meaning) → with_before (with_bound env scope ident v) scope ident (bound_at env scope ident) ≡ env
put_back env scope ident v = let same = scopes_back ident v env.scopes scope (bound_at env scope ident) refl in λ j. record env { scopes = same j }
