-- Which scopes are around which.
use Rattle.std.proofs.Common.{◌≡◌, ℕ, ◌<◌, Bool, false, List, [], ◌∷◌, ◌++◌, length, slice_get, nat_eq, Option, Some, None, refl, sym, ap, ◌∙◌, arith}
use Rattle.std.specs.Prelude.{◌||◌, ◌==◌}
use Rattle.std.specs.FinMap.{get}
use Rattle.std.specs.List.{list_any}
use Rattle.std.specs.Option.{option_and_then}
use Rattle.std.proofs.lemmas.Bool.{ne_eqb}
use Rattle.syntax_tree.specs.declared.meaning.Meaning.{Meaning}
use Rattle.syntax_tree.proofs.Places.{get_front, get_next, get_within}
use Rattle.scope_env.specs.Environment.{Environment, Scope, IsSound, new_scope, with_child, with_root, with_bound, bound_in}
use Rattle.scope_env.specs.Resolved.{path, around}
use Rattle.scope_env.specs.Moved.{parent_of, is_around}
use Rattle.scope_env.proofs.Changes.{sound_child, sound_root, sound_bound, same_parent}
use Rattle.scope_env.proofs.Locals.{path_at, by_number}
use Rattle.scope_env.proofs.Places.{changed_to}

-- ---- scopes that are newer than this one aren't around it

none_around : (e : Environment) (scope : ℕ) (o : Option ℕ) → ((p : ℕ) → o ≡ Some p → is_around e scope p ≡ false) → list_any (nat_eq scope) (around o (λ p. path e p)) ≡ false
none_around e scope None rest = refl
none_around e scope (Some p) rest = rest p refl

pub older_apart : (e : Environment) (scope : ℕ) → IsSound e → (n : ℕ) → n < scope → n < length e.scopes → is_around e scope n ≡ false
older_apart e scope sound = by_number (λ n. n < scope → n < length e.scopes → is_around e scope n ≡ false) (λ n rest lt within.
    let s = get_within e.scopes n within in
    let inside : (p : ℕ) → s.0.parent ≡ Some p → is_around e scope p ≡ false =
    λ p is. let below : p < n = sound.older n p s.0 s.1 is in rest p below (omega arith) (omega arith) in
    ap (λ (ns : List ℕ). list_any (nat_eq scope) ns) (path_at e sound n s.0 s.1)
    ∙ ap (λ (b : Bool). b || list_any (nat_eq scope) (around s.0.parent (λ p. path e p))) (ne_eqb scope n (λ e. omega arith))
    ∙ none_around e scope s.0.parent inside)

-- ---- what stays

same_path : (o : Option ℕ) (f g : ℕ → List ℕ) → ((p : ℕ) → o ≡ Some p → f p ≡ g p) → around o f ≡ around o g
same_path None f g h = refl
same_path (Some p) f g h = h p refl

-- scopes that are inside the same ones
module _ (e f : Environment) (sound_e : IsSound e) (sound_f : IsSound f)
    (alike : (n : ℕ) (s : Scope) → slice_get e.scopes n ≡ Some s → (t : Scope) × (slice_get f.scopes n ≡ Some t) × (t.parent ≡ s.parent)) where
  pub path_stays : (n : ℕ) → n < length e.scopes → path e n ≡ path f n
  path_stays = by_number (λ n. n < length e.scopes → path e n ≡ path f n) (λ n rest within.
      let s = get_within e.scopes n within in
      let t = alike n s.0 s.1 in
      path_at e sound_e n s.0 s.1
      ∙ ap (λ (ns : List ℕ). n ∷ ns) (same_path s.0.parent (λ p. path e p) (λ p. path f p) (λ p is.
      let below : p < n = sound_e.older n p s.0 s.1 is in rest p below (omega arith)))
      ∙ ap (λ (o : Option ℕ). n ∷ around o (λ p. path f p)) (sym t.2)
      ∙ sym (path_at f sound_f n t.0 t.1))

  pub around_stays : (scope n : ℕ) → n < length e.scopes → is_around f scope n ≡ is_around e scope n
  around_stays scope n within = ap (λ (ns : List ℕ). list_any (nat_eq scope) ns) (sym (path_stays n within))

longer_alike : (e f : Environment) (x : Scope) → f.scopes ≡ e.scopes ++ x ∷ [] → (n : ℕ) (s : Scope) → slice_get e.scopes n ≡ Some s → (t : Scope) × (slice_get f.scopes n ≡ Some t) × (t.parent ≡ s.parent)
longer_alike e f x is n s at = (s, ap (λ (ss : List Scope). slice_get ss n) is ∙ get_front e.scopes (x ∷ []) n s at, refl)

pub child_around : (e : Environment) (parent scope n : ℕ) → IsSound e → parent < length e.scopes → n < length e.scopes → is_around (with_child e parent) scope n ≡ is_around e scope n
child_around e parent scope n sound within =
    around_stays e (with_child e parent) sound (sound_child e parent sound within) (longer_alike e (with_child e parent) (new_scope (Some parent)) refl) scope n

pub root_around : (e : Environment) (unit scope n : ℕ) → IsSound e → get e.roots unit ≡ None → n < length e.scopes → is_around (with_root e unit) scope n ≡ is_around e scope n
root_around e unit scope n sound new =
    around_stays e (with_root e unit) sound (sound_root e unit sound new) (longer_alike e (with_root e unit) (new_scope None) refl) scope n

pub bound_around : (e : Environment) (at ident : ℕ) (m : Meaning) (scope n : ℕ) → IsSound e → n < length e.scopes → is_around (with_bound e at ident m) scope n ≡ is_around e scope n
bound_around e at ident m scope n sound =
    around_stays e (with_bound e at ident m) sound (sound_bound e at ident m sound)
    (λ k s there. let t = changed_to (bound_in ident m) e.scopes at k s there in (t.0, t.1, same_parent ident m (k ≡ at) s t.0 t.2)) scope n

-- what is around a new scope: it itself, and what is around its parent
pub child_inside : (e : Environment) (parent scope : ℕ) → IsSound e → parent < length e.scopes → is_around (with_child e parent) scope (length e.scopes) ≡ ((scope == length e.scopes) || is_around e scope parent)
child_inside e parent scope sound within =
    ap (λ (ns : List ℕ). list_any (nat_eq scope) ns) (path_at (with_child e parent) (sound_child e parent sound within) (length e.scopes) (new_scope (Some parent)) (get_next e.scopes [] (new_scope (Some parent))))
    ∙ ap (λ (b : Bool). (scope == length e.scopes) || b) (child_around e parent scope parent sound within within)

pub child_parent : (e : Environment) (parent : ℕ) → parent_of (with_child e parent) (length e.scopes) ≡ Some parent
child_parent e parent =
    ap (λ (o : Option Scope). option_and_then (λ (s : Scope). s.parent) o) (get_next e.scopes [] (new_scope (Some parent)))
