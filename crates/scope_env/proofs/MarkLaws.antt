-- What is marked of an environment, and that no scope binds what isn't.
use Rattle.std.proofs.Common.{◌≡◌, ℕ, ◌<◌, Bool, true, false, cond, List, [], ◌∷◌, ◌++◌, length, slice_get, Option, Some, None, refl, sym, ap, ◌∙◌, subst, inl, inr, arith}
use Rattle.std.specs.Prelude.{◌⊎◌, unwrap_or}
use Rattle.std.specs.Ordering.{nat_cmp, eq_by_cmp}
use Rattle.std.specs.Cmp.{nat_cmp_total, Equal-is}
use Rattle.std.specs.FinMap.{get, nat_cmp-IsAntisymmetric, get-empty, get-insert}
use Rattle.std.specs.Option.{option_or, option_and_then}
use Rattle.syntax_tree.proofs.Places.{none_some, get_within, push_cases}
use Rattle.scheme_model.specs.Identifiers.{Number}
use Rattle.syntax_tree.specs.declared.meaning.Meaning.{Meaning}
use Rattle.scope_env.specs.declared.marks.Marks as code
use Rattle.scope_env.specs.Environment.{Environment, Scope, no_scopes, new_scope, with_child, with_root, with_use, with_bound, bound_in}
use Rattle.scope_env.specs.Marks.{marked, marked_for, IsKept}
use Rattle.scope_env.specs.Resolved.{local, bound_at, own}
use Rattle.scope_env.proofs.Places.{changed_from}
use Rattle.scope_env.proofs.Changes.{sound_empty, sound_child, sound_root, sound_use, sound_bound}
use Rattle.scope_env.proofs.Locals.{outwards, local_is, by_number}

-- the same marks
pub same_marks : (env : Environment) (l m o p : code.Marks) → ((around : Option ℕ) (n : ℕ) → marked_for m p around n ≡ false → marked_for l o around n ≡ false) → IsKept env l o → IsKept env m p
same_marks env l m o p kept h = record {
  sound = h.sound;
  unmarked = λ n ident s at is. h.unmarked n ident s at (kept s.parent ident is);
}

pub copied_marks : (env : Environment) (l m o p : code.Marks) → m.marks.items ≡ l.marks.items → p.marks.items ≡ o.marks.items → IsKept env l o → IsKept env m p
copied_marks env l m o p same_l same_o h = same_marks env l m o p by h
  where
    by : (around : Option ℕ) (n : ℕ) → marked_for m p around n ≡ false → marked_for l o around n ≡ false
    by None n is = ap (λ (bs : List Bool). unwrap_or (slice_get bs n) false) (sym same_o) ∙ is
    by (Some q) n is = ap (λ (bs : List Bool). unwrap_or (slice_get bs n) false) (sym same_l) ∙ is

module _ (l o : code.Marks) where
  pub kept_empty : IsKept no_scopes l o
  kept_empty = record {
    sound = sound_empty;
    unmarked = λ n ident s at is. none_some s at;
  }

  -- one scope more binds nothing
  pushed : (env : Environment) (parent : Option ℕ) → ((n ident : ℕ) (s : Scope) → slice_get env.scopes n ≡ Some s → marked_for l o s.parent ident ≡ false → get s.bound ident ≡ None) →
      (n ident : ℕ) (s : Scope) → slice_get (env.scopes ++ new_scope parent ∷ []) n ≡ Some s → marked_for l o s.parent ident ≡ false → get s.bound ident ≡ None
  pushed env parent h n ident s at is = elim (push_cases env.scopes (new_scope parent) n s at) [
    | inl there ↦ h n ident s there is
    | inr last ↦ ap (λ (t : Scope). get t.bound ident) last.1 ∙ get-empty nat_cmp ident
  ]

  pub kept_child : (env : Environment) (parent : ℕ) → IsKept env l o → parent < length env.scopes → IsKept (with_child env parent) l o
  kept_child env parent h within = record {
    sound = sound_child env parent h.sound within;
    unmarked = pushed env (Some parent) h.unmarked;
  }

  pub kept_root : (env : Environment) (unit : ℕ) → IsKept env l o → get env.roots unit ≡ None → IsKept (with_root env unit) l o
  kept_root env unit h new = record {
    sound = sound_root env unit h.sound new;
    unmarked = pushed env None h.unmarked;
  }

  pub kept_use : (env : Environment) (k : Number) (scope : ℕ) → IsKept env l o → scope < length env.scopes → IsKept (with_use env k scope) l o
  kept_use env k scope h within = record {
    sound = sound_use env k scope h.sound within;
    unmarked = h.unmarked;
  }

  -- ---- one identifier more is bound, which is marked

  bound_other : (b : Bool) (s : Scope) (ident q : ℕ) (m : Meaning) → eq_by_cmp nat_cmp q ident ≡ b → marked_for l o s.parent ident ≡ true → marked_for l o s.parent q ≡ false → get s.bound q ≡ None → cond b (Some m) (get s.bound q) ≡ None
  bound_other true s ident q m tied is not none =
      let same : q ≡ ident = nat_cmp-IsAntisymmetric q ident ((Equal-is (nat_cmp q ident)).0 tied) in
      let both : true ≡ false = sym is ∙ ap (λ (n : ℕ). marked_for l o s.parent n) (sym same) ∙ not in
      let never : ⊥ = cc in absurd never
  bound_other false s ident q m tied is not none = none

  put : (s : Scope) (ident q : ℕ) (m : Meaning) → marked_for l o s.parent ident ≡ true → marked_for l o s.parent q ≡ false → get s.bound q ≡ None → get (bound_in ident m s).bound q ≡ None
  put s ident q m is not none = get-insert nat_cmp_total s.bound ident m q ∙ bound_other (eq_by_cmp nat_cmp q ident) s ident q m refl is not none

  put_in : (env : Environment) (scope ident : ℕ) (m : Meaning) → ((s : Scope) → slice_get env.scopes scope ≡ Some s → marked_for l o s.parent ident ≡ true) → IsKept env l o →
      (n q : ℕ) (s t : Scope) → slice_get env.scopes n ≡ Some s → (t ≡ s) ⊎ ((n ≡ scope) × (t ≡ bound_in ident m s)) → marked_for l o t.parent q ≡ false → get t.bound q ≡ None
  put_in env scope ident m is h n q s t at (inl same) not =
      ap (λ (u : Scope). get u.bound q) same ∙ h.unmarked n q s at (ap (λ (u : Scope). marked_for l o u.parent q) (sym same) ∙ not)
  put_in env scope ident m is h n q s t at (inr here) not =
      let not_s : marked_for l o s.parent q ≡ false = ap (λ (u : Scope). marked_for l o u.parent q) (sym here.1) ∙ not in
      ap (λ (u : Scope). get u.bound q) here.1 ∙ put s ident q m (is s (subst (λ (k : ℕ). slice_get env.scopes k ≡ Some s) here.0 at)) not_s (h.unmarked n q s at not_s)

  pub kept_bound : (env : Environment) (scope ident : ℕ) (m : Meaning) → IsKept env l o → ((s : Scope) → slice_get env.scopes scope ≡ Some s → marked_for l o s.parent ident ≡ true) → IsKept (with_bound env scope ident m) l o
  kept_bound env scope ident m h is = record {
    sound = sound_bound env scope ident m h.sound;
    unmarked = λ n q t at not. let before = changed_from (bound_in ident m) env.scopes scope n t at in
        put_in env scope ident m is h n q before.0 t before.1 before.2 not;
  }

  -- ---- what isn't marked

  none_outwards : (parent : Option ℕ) (here : Option Meaning) (beyond : ℕ → Option Meaning) → ((p : ℕ) → parent ≡ Some p → here ≡ None) → ((p : ℕ) → parent ≡ Some p → beyond p ≡ None) → outwards parent here beyond ≡ None
  none_outwards None here beyond h g = refl
  none_outwards (Some p) here beyond h g = λ j. option_or (h p refl j) (g p refl j)

  module _ (env : Environment) (kept : IsKept env l o) (ident : ℕ) where
    -- no local scope binds it
    pub no_local : marked l ident ≡ false → (n : ℕ) → n < length env.scopes → local env (Some n) ident ≡ None
    no_local not = by_number (λ n. n < length env.scopes → local env (Some n) ident ≡ None) (λ n rest within.
        let s = get_within env.scopes n within in
        local_is env kept.sound ident n s.0 s.1
        ∙ none_outwards s.0.parent (get s.0.bound ident) (λ p. local env (Some p) ident)
        (λ p is. kept.unmarked n ident s.0 s.1 (ap (λ (o' : Option ℕ). marked_for l o o' ident) is ∙ not))
        (λ p is. let older = kept.sound.older n p s.0 s.1 is in rest p older (omega arith)))

    -- none from a scope outwards, where there is one to begin with
    pub no_local_from : marked l ident ≡ false → (from : Option ℕ) → ((n : ℕ) → from ≡ Some n → n < length env.scopes) → local env from ident ≡ None
    no_local_from not None within = refl
    no_local_from not (Some n) within = no_local not n (within n refl)

    -- no unit's own scope binds it
    pub no_own : marked o ident ≡ false → (u : ℕ) → own env u ident ≡ None
    no_own not u = by (get env.roots u) refl
      where
        by : (r : Option ℕ) → get env.roots u ≡ r → option_and_then (λ (n : ℕ). bound_at env n ident) r ≡ None
        by None is = refl
        by (Some n) is =
            let root = kept.sound.roots u n is in
            ap (λ (x : Option Scope). option_and_then (λ (t : Scope). get t.bound ident) x) root.there
            ∙ kept.unmarked n ident root.scope root.there (ap (λ (p : Option ℕ). marked_for l o p ident) root.outermost ∙ not)
