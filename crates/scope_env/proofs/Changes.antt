-- What calls make of an environment, and that it stays sound.
use Rattle.std.proofs.Common.{◌≡◌, ℕ, zero, suc, ◌<◌, ◌+◌, ◌-◌, take, Bool, true, false, cond, List, [], ◌∷◌, ◌++◌, map, length, set, slice_get, Option, Some, None, refl, sym, ap, ◌∙◌, subst, inl, inr, arith, length-append, Result, Ok, Err, is_err, OnOk, OnErr}
use Rattle.std.specs.Prelude.{◌⊎◌}
use Rattle.std.specs.declared.cmp.Ordering.{Ordering}
use Rattle.std.specs.Ordering.{nat_cmp, eq_by_cmp}
use Rattle.std.specs.Cmp.{IsTotalOrder, nat_cmp_total, Equal-is}
use Rattle.std.specs.BTreeMap.{BTreeMap, IsEmpty, Updates}
use Rattle.std.specs.FinMap.{FinMap, get, insert, from_entries, IsAntisymmetric, nat_cmp-IsAntisymmetric, get-empty, get-insert}
use Rattle.std.proofs.lemmas.List.{length-map}
use Rattle.std.proofs.lemmas.Option.{slice_get_within, same_Some}
use Rattle.syntax_tree.proofs.Places.{none_some, get_front, get_next, push_cases}
use Rattle.scheme_model.specs.Identifiers.{Number}
use Rattle.syntax_tree.specs.declared.meaning.Meaning.{Meaning}
use Rattle.syntax_tree.specs.Numbered.{number_of}
use Rattle.syntax_tree.specs.declared.symbols.UseNo.{UseNo}
use Rattle.syntax_tree.specs.contracts.symbols.UseNoOrd.TheImpl.{cmp-value}
use Rattle.scope_env.specs.declared.env.Scope as kept
use Rattle.scope_env.specs.Environment.{Environment, Scope, no_scopes, new_scope, with_child, with_root, with_use, with_bound, bound_in, changed_at, number_cmp, IsOwn, IsSound}
use Rattle.scope_env.specs.Kept.{scope_of, environment_of, uses_of}
use Rattle.scope_env.proofs.Places.{changed_from, changed_to, length-changed_at, map_set}
use Rattle.scope_env.proofs.Orders.{number_total, number_same, put_plain, put_uses}

-- ---- a map with one entry more

module _ {K X : Type 0} (R : K → K → Ordering) (total : IsTotalOrder R) (same : IsAntisymmetric R) where
  at_cases : (b : Bool) (k q : K) (v w : X) (o : Option X) → eq_by_cmp R q k ≡ b → cond b (Some v) o ≡ Some w → ((q ≡ k) × (v ≡ w)) ⊎ (o ≡ Some w)
  at_cases true k q v w o tied h = inl (same q k ((Equal-is (R q k)).0 tied), same_Some v w h)
  at_cases false k q v w o tied h = inr h

  pub inserted : (m : FinMap R X) (k q : K) (v w : X) → get (insert m k v) q ≡ Some w → ((q ≡ k) × (v ≡ w)) ⊎ (get m q ≡ Some w)
  inserted m k q v w h = at_cases (eq_by_cmp R q k) k q v w (get m q) refl (sym (get-insert total m k v q) ∙ h)

-- ---- sound environments

pub sound_empty : IsSound no_scopes
sound_empty = record {
  older = λ n p s at. none_some s at;
  uses = λ k n at. none_some n (sym (get-empty number_cmp k) ∙ at);
  roots = λ u n at. none_some n (sym (get-empty nat_cmp u) ∙ at);
  apart = λ u v n at. none_some n (sym (get-empty nat_cmp u) ∙ at);
}

-- one scope more, which is inside an older one or inside none
longer : (xs : List Scope) (x : Scope) (n : ℕ) → n < length xs → n < length (xs ++ x ∷ [])
longer xs x n lt = omega (arith, length-append xs (x ∷ []))

own_stays : (env : Environment) (x : Scope) (n : ℕ) (roots : FinMap nat_cmp ℕ) → IsOwn env n → IsOwn (record env { scopes = env.scopes ++ x ∷ []; roots = roots }) n
own_stays env x n roots own = record { scope = own.scope; there = get_front env.scopes (x ∷ []) n own.scope own.there; outermost = own.outermost }

pub sound_child : (env : Environment) (parent : ℕ) → IsSound env → parent < length env.scopes → IsSound (with_child env parent)
sound_child env parent sound within = record {
  older = λ n p s at is. elim (push_cases env.scopes (new_scope (Some parent)) n s at) [
    | inl there ↦ sound.older n p s there is
    | inr last ↦ let same : parent ≡ p = same_Some parent p (sym (ap (λ (t : Scope). t.parent) last.1) ∙ is) in omega (arith, last.0)
  ];
  uses = λ k n at. longer env.scopes (new_scope (Some parent)) n (sound.uses k n at);
  roots = λ u n at. own_stays env (new_scope (Some parent)) n env.roots (sound.roots u n at);
  apart = sound.apart;
}

-- no unit has a scope that isn't there yet
clash : (env : Environment) (u n : ℕ) → IsSound env → get env.roots u ≡ Some n → length env.scopes ≡ n → ⊥
clash env u n sound at is =
    let own = sound.roots u n at in
    let within = slice_get_within env.scopes n own.scope own.there in omega arith

new_own : (env : Environment) (n : ℕ) (roots : FinMap nat_cmp ℕ) → length env.scopes ≡ n → IsOwn (record env { scopes = env.scopes ++ new_scope None ∷ []; roots = roots }) n
new_own env n roots is = record {
  scope = new_scope None;
  there = subst (λ (m : ℕ). slice_get (env.scopes ++ new_scope None ∷ []) m ≡ Some (new_scope None)) is (get_next env.scopes [] (new_scope None));
  outermost = refl;
}

-- the unit that has a scope, where one more unit has the newest
abbrev Rooted : Environment → ℕ → ℕ → ℕ → Type 0
Rooted env unit u n = ((u ≡ unit) × (length env.scopes ≡ n)) ⊎ (get env.roots u ≡ Some n)

one_unit : (env : Environment) (unit u v n : ℕ) → IsSound env → Rooted env unit u n → Rooted env unit v n → u ≡ v
one_unit env unit u v n sound (inl p) (inl q) = p.0 ∙ sym q.0
one_unit env unit u v n sound (inl p) (inr q) = absurd (clash env v n sound q p.1)
one_unit env unit u v n sound (inr p) (inl q) = absurd (clash env u n sound p q.1)
one_unit env unit u v n sound (inr p) (inr q) = sound.apart u v n p q

pub sound_root : (env : Environment) (unit : ℕ) → IsSound env → get env.roots unit ≡ None → IsSound (with_root env unit)
sound_root env unit sound new =
    let rooted : (u n : ℕ) → get (insert env.roots unit (length env.scopes)) u ≡ Some n → Rooted env unit u n =
    λ u n. inserted nat_cmp nat_cmp_total nat_cmp-IsAntisymmetric env.roots unit u (length env.scopes) n in
    record {
      older = λ n p s at is. elim (push_cases env.scopes (new_scope None) n s at) [
        | inl there ↦ sound.older n p s there is
        | inr last ↦ none_some p (sym (ap (λ (t : Scope). t.parent) last.1) ∙ is)
      ];
      uses = λ k n at. longer env.scopes (new_scope None) n (sound.uses k n at);
      roots = λ u n at. elim (rooted u n at) [
        | inl here ↦ new_own env n (insert env.roots unit (length env.scopes)) here.1
        | inr before ↦ own_stays env (new_scope None) n (insert env.roots unit (length env.scopes)) (sound.roots u n before)
      ];
      apart = λ u v n at_u at_v. one_unit env unit u v n sound (rooted u n at_u) (rooted v n at_v);
    }

pub sound_use : (env : Environment) (k : Number) (scope : ℕ) → IsSound env → scope < length env.scopes → IsSound (with_use env k scope)
sound_use env k scope sound within = record {
  older = sound.older;
  uses = λ j n at. elim (inserted number_cmp number_total number_same env.uses k j scope n at) [
    | inl here ↦ omega (arith, here.1)
    | inr before ↦ sound.uses j n before
  ];
  roots = λ u n at. let o = sound.roots u n at in record { scope = o.scope; there = o.there; outermost = o.outermost };
  apart = sound.apart;
}

-- a scope that binds one identifier more stays inside the same one
pub same_parent : (ident : ℕ) (m : Meaning) (P : Type 0) (x y : Scope) → (y ≡ x) ⊎ (P × (y ≡ bound_in ident m x)) → y.parent ≡ x.parent
same_parent ident m P x y (inl e) = ap (λ (t : Scope). t.parent) e
same_parent ident m P x y (inr h) = ap (λ (t : Scope). t.parent) h.1

pub sound_bound : (env : Environment) (scope ident : ℕ) (m : Meaning) → IsSound env → IsSound (with_bound env scope ident m)
sound_bound env scope ident m sound = record {
  older = λ n p s at is. let before = changed_from (bound_in ident m) env.scopes scope n s at in
      sound.older n p before.0 before.1 (sym (same_parent ident m (n ≡ scope) before.0 s before.2) ∙ is);
  uses = λ k n at. subst (λ (len : ℕ). n < len) (sym (length-changed_at (bound_in ident m) env.scopes scope)) (sound.uses k n at);
  roots = λ u n at. let own = sound.roots u n at in
      let after = changed_to (bound_in ident m) env.scopes scope n own.scope own.there in
      record { scope = after.0; there = after.1; outermost = same_parent ident m (n ≡ scope) own.scope after.0 after.2 ∙ own.outermost };
  apart = sound.apart;
}

-- ---- what the fields stand for

new_scope_of : (s : kept.Scope) (parent : Option ℕ) → s.parent ≡ parent → IsEmpty s.bound → scope_of s ≡ new_scope parent
new_scope_of s parent is none = λ j. record { parent = is j; bound = from_entries {R = nat_cmp} (none j) }

pushed : (ss : List kept.Scope) (s : kept.Scope) (t : Scope) → scope_of s ≡ t → map scope_of (ss ++ s ∷ []) ≡ map scope_of ss ++ t ∷ []
pushed [] s t is = ap (λ (u : Scope). u ∷ []) is
pushed (r ∷ ss) s t is = ap (λ (rest : List Scope). scope_of r ∷ rest) (pushed ss s t is)

-- a scope that is written with one entry more, and one that is written as it was
bound : (ss : List kept.Scope) (n ident : ℕ) (m : Meaning) (old new : kept.Scope) → slice_get ss n ≡ Some old → new.parent ≡ old.parent → Updates nat_cmp old.bound new.bound ident (Some m) → map scope_of (set ss n new) ≡ changed_at (bound_in ident m) (map scope_of ss) n
bound ss n ident m old new at parent put =
    let entries = put_plain old.bound new.bound ident m put in
    map_set scope_of (bound_in ident m) ss n old new at (λ j. record { parent = parent j; bound = entries j })

unbound : (ss : List kept.Scope) (n : ℕ) (old new : kept.Scope) → slice_get ss n ≡ Some old → new.parent ≡ old.parent → new.bound.entries ≡ old.bound.entries → map scope_of (set ss n new) ≡ map scope_of ss
unbound ss n old new at parent same =
    map_set scope_of (λ (s : Scope). s) ss n old new at (λ j. record { parent = parent j; bound = from_entries {R = nat_cmp} (same j) }) ∙ unchanged (map scope_of ss) n
  where
    unchanged : (xs : List Scope) (n : ℕ) → changed_at (λ (s : Scope). s) xs n ≡ xs
    unchanged [] n = refl
    unchanged (x ∷ xs) zero = refl
    unchanged (x ∷ xs) (suc n) = ap (λ (rest : List Scope). x ∷ rest) (unchanged xs n)

module _ (ss new : List kept.Scope) (uses : List (UseNo × ℕ)) where
  pub child_seen : (roots : List (ℕ × ℕ)) (parent : ℕ) (s : kept.Scope) → new ≡ ss ++ s ∷ [] → s.parent ≡ Some parent → IsEmpty s.bound → environment_of new uses roots ≡ with_child (environment_of ss uses roots) parent
  child_seen roots parent s is inside none =
      let scopes = ap (λ (l : List kept.Scope). map scope_of l) is ∙ pushed ss s (new_scope (Some parent)) (new_scope_of s (Some parent) inside none) in
      λ j. record { scopes = scopes j; uses = uses_of uses; roots = from_entries {R = nat_cmp} roots }

  pub root_seen : (m n : BTreeMap ℕ ℕ) (unit : ℕ) (s : kept.Scope) → new ≡ ss ++ s ∷ [] → s.parent ≡ None → IsEmpty s.bound → Updates nat_cmp m n unit (Some (length ss)) → environment_of new uses n.entries ≡ with_root (environment_of ss uses m.entries) unit
  root_seen m n unit s is outermost none put =
      let scopes = ap (λ (l : List kept.Scope). map scope_of l) is ∙ pushed ss s (new_scope None) (new_scope_of s None outermost none) in
      let roots = put_plain m n unit (length ss) put ∙ ap (λ (k : ℕ). insert (from_entries {R = nat_cmp} m.entries) unit k) (sym (length-map ss scope_of)) in
      λ j. record { scopes = scopes j; uses = uses_of uses; roots = roots j }

pub bound_seen : (ss : List kept.Scope) (uses : List (UseNo × ℕ)) (roots : List (ℕ × ℕ)) (n ident : ℕ) (m : Meaning) (old new : kept.Scope) → slice_get ss n ≡ Some old → new.parent ≡ old.parent → Updates nat_cmp old.bound new.bound ident (Some m) →
    environment_of (set ss n new) uses roots ≡ with_bound (environment_of ss uses roots) n ident m
bound_seen ss uses roots n ident m old new at parent put =
    let scopes = bound ss n ident m old new at parent put in
    λ j. record { scopes = scopes j; uses = uses_of uses; roots = from_entries {R = nat_cmp} roots }

pub unbound_seen : (ss : List kept.Scope) (uses : List (UseNo × ℕ)) (roots : List (ℕ × ℕ)) (n : ℕ) (old new : kept.Scope) → slice_get ss n ≡ Some old → new.parent ≡ old.parent → new.bound.entries ≡ old.bound.entries →
    environment_of (set ss n new) uses roots ≡ environment_of ss uses roots
unbound_seen ss uses roots n old new at parent same =
    let scopes = unbound ss n old new at parent same in
    λ j. record { scopes = scopes j; uses = uses_of uses; roots = from_entries {R = nat_cmp} roots }

pub use_seen : (ss : List kept.Scope) (roots : List (ℕ × ℕ)) (m n : BTreeMap UseNo ℕ) (k : UseNo) (scope : ℕ) → Updates cmp-value.it m n k (Some scope) → environment_of ss n.entries roots ≡ with_use (environment_of ss m.entries roots) (number_of k) scope
use_seen ss roots m n k scope put =
    let uses = put_uses m n k scope put in
    λ j. record { scopes = map scope_of ss; uses = uses j; roots = from_entries {R = nat_cmp} roots }

-- what holds on `Ok`
pub on_ok : {T E : Type 0} {P : Type 0} (r : Result T E) → is_err r ≡ false → OnOk r P → P
on_ok (Ok x) is h = h
on_ok (Err e) is h = absurd cc

-- what holds of each error, where there is nothing else
pub on_err : {T E : Type 0} {P : Type 0} (r : Result T E) → P → OnErr r P
on_err (Ok x) h = tt
on_err (Err e) h = h

pub from_err : {T E : Type 0} {P : Type 0} (r : Result T E) → is_err r ≡ true → OnErr r P → P
from_err (Ok x) is h = absurd cc
from_err (Err e) is h = h

-- what is pushed and popped again
front_taken : {A : Type 0} (xs : List A) (x : A) → take (length xs) (xs ++ x ∷ []) ≡ xs
front_taken [] x = refl
front_taken {A} (y ∷ xs) x = ap (λ (l : List A). y ∷ l) (front_taken xs x)

pub popped : {A : Type 0} (xs ys zs : List A) (x : A) (n : ℕ) → ys ≡ xs ++ x ∷ [] → n ≡ length ys → zs ≡ take (n - 1) ys → zs ≡ xs
popped xs ys zs x n pushed counted rest =
    let count : length ys ≡ length xs + 1 = ap length pushed ∙ length-append xs (x ∷ []) in
    let less : n - 1 ≡ length xs = omega arith in
    rest ∙ (λ j. take (less j) (pushed j)) ∙ front_taken xs x
