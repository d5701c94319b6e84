-- What an environment stands for after a change.
use Rattle.std.proofs.Common.{◌≡◌, ℕ, ◌<◌, Bool, true, false, cond, List, [], ◌∷◌, ◌++◌, length, slice_get, nat_eq, Option, Some, None, refl, sym, ap, ◌∙◌, subst, inl, inr, arith}
use Rattle.std.specs.Prelude.{◌⊎◌, ◌==◌, ◌&&◌, ◌||◌}
use Rattle.std.specs.Ordering.{nat_cmp, eq_by_cmp}
use Rattle.std.specs.Cmp.{nat_cmp_total, Equal-is, tied_itself}
use Rattle.std.specs.FinMap.{FinMap, get, insert, nat_cmp-IsAntisymmetric, get-empty, get-insert}
use Rattle.std.specs.List.{list_any}
use Rattle.std.specs.Option.{option_or, option_map, option_and_then}
use Rattle.std.proofs.lemmas.Bool.{eqb-true, eqb-false, cases_eq}
use Rattle.std.proofs.lemmas.Option.{slice_get_within, same_Some}
use Rattle.scheme_model.specs.Identifiers.{Number, same_number}
use Rattle.scheme_model.specs.Ident.{Ident as Identifier, Written, Inserted, same_ident}
use Rattle.scheme_model.specs.Meaning as model
use Rattle.scheme_model.specs.Scopes.{Chain, Uses, Own, found, given_or, local_or, beyond, means}
use Rattle.scheme_model.proofs.IdentLaws.{ident_told, ident_itself, number_told, number_itself, bool_same}
use Rattle.syntax_tree.specs.Names.{Names, AreToldApart}
use Rattle.syntax_tree.specs.Macros.{IsIdent}
use Rattle.syntax_tree.specs.Meant.{IsGivenMeaning}
use Rattle.syntax_tree.specs.declared.meaning.Meaning.{Meaning}
use Rattle.syntax_tree.specs.declared.meaning.Meaning.TheVariants as code
use Rattle.syntax_tree.proofs.Places.{none_some, get_front, get_same, get_next, get_within}
use Rattle.scope_env.specs.Environment.{Environment, Scope, IsSound, new_scope, with_child, with_root, with_use, with_bound, bound_in, number_cmp}
use Rattle.scope_env.specs.Resolved.{path, around, local, bound_at, own}
use Rattle.scope_env.specs.Standing.{StandsFor, Gives, EnvFor}
use Rattle.scope_env.specs.Moved.{parent_of, is_around, with_use_under, with_given, has_use, is_at, with_binder}
use Rattle.scope_env.proofs.Places.{changed_here, changed_there}
use Rattle.scope_env.proofs.Orders.{number_total, number_same}
use Rattle.scope_env.proofs.Changes.{sound_child, sound_root, sound_bound}
use Rattle.scope_env.proofs.Locals.{outwards, path_at, local_is, local_alike}

-- ---- what stays where scopes answer as before

stands_on : (names : Names) (e f : Environment) (c : Chain) (n : ℕ) → ((ident : ℕ) → local e (Some n) ident ≡ local f (Some n) ident) → StandsFor names e (Some n) c → StandsFor names f (Some n) c
stands_on names e f c n same stands = λ m. sym (same m) ∙ stands m

-- no scope is around nothing
stands_nowhere : (names : Names) (e f : Environment) (c : Chain) → StandsFor names e None c → StandsFor names f None c
stands_nowhere names e f c stands = λ m. stands m

env_on : (names : Names) (e f : Environment) (given : Own) (uses : Uses) → ((u n : ℕ) → own e u n ≡ own f u n) → ((k : Number) → StandsFor names e (get e.uses k) (uses k) → StandsFor names f (get f.uses k) (uses k)) → EnvFor names e given uses → EnvFor names f given uses
env_on names e f given uses same scopes is = record {
  own = λ u n. subst (λ (o : Option Meaning). Gives names o (option_and_then (given u) (slice_get names.idents n))) (same u n) (is.own u n);
  uses = λ k. scopes k (is.uses k);
}

-- ---- a scope more

module _ (names : Names) (e : Environment) (x : Scope) (roots : FinMap nat_cmp ℕ) (sound : IsSound e) (sound' : IsSound (record e { scopes = e.scopes ++ x ∷ []; roots = roots })) where
  abbrev longer : Environment
  longer = record e { scopes = e.scopes ++ x ∷ []; roots = roots }

  older_stays : (n ident : ℕ) → n < length e.scopes → local e (Some n) ident ≡ local longer (Some n) ident
  older_stays n ident lt = local_alike e longer ident sound sound' (λ m. m < length e.scopes)
      (λ m within. let s = get_within e.scopes m within in (s.0, s.0, s.1, get_front e.scopes (x ∷ []) m s.0 s.1, record { asked = λ f. refl }))
      (λ m p s within at is. let below = sound.older m p s at is in omega arith) n lt

  pub older_stands : (c : Chain) (n : ℕ) → n < length e.scopes → StandsFor names e (Some n) c → StandsFor names longer (Some n) c
  older_stands c n lt = stands_on names e longer c n (λ ident. older_stays n ident lt)

  use_stands : (c : Chain) (o : Option ℕ) → ((n : ℕ) → o ≡ Some n → n < length e.scopes) → StandsFor names e o c → StandsFor names longer o c
  use_stands c None there stands = stands_nowhere names e longer c stands
  use_stands c (Some n) there stands = older_stands c n (there n refl) stands

  pub longer_env : (given : Own) (uses : Uses) → ((u n : ℕ) → own e u n ≡ own longer u n) → EnvFor names e given uses → EnvFor names longer given uses
  longer_env given uses same is = env_on names e longer given uses same (λ k. use_stands (uses k) (get e.uses k) (sound.uses k)) is

  bound_stays : (n r : ℕ) → r < length e.scopes → bound_at e r n ≡ bound_at longer r n
  bound_stays n r lt = ap (λ (o : Option Scope). option_and_then (λ (s : Scope). get s.bound n) o) (sym (get_same e.scopes (x ∷ []) r lt))

  pub own_stays : (n : ℕ) (o : Option ℕ) → ((r : ℕ) → o ≡ Some r → r < length e.scopes) → option_and_then (λ (r : ℕ). bound_at e r n) o ≡ option_and_then (λ (r : ℕ). bound_at longer r n) o
  own_stays n None there = refl
  own_stays n (Some r) there = bound_stays n r (there r refl)

root_there : (e : Environment) (u r : ℕ) → IsSound e → get e.roots u ≡ Some r → r < length e.scopes
root_there e u r sound at =
    let o = sound.roots u r at in slice_get_within e.scopes r o.scope o.there

module _ (names : Names) (e : Environment) (parent : ℕ) (sound : IsSound e) (within : parent < length e.scopes) where
  pub child_stands : (c : Chain) → StandsFor names e (Some parent) c → StandsFor names (with_child e parent) (Some (length e.scopes)) c
  child_stands c stands = λ m.
      local_is (with_child e parent) (sound_child e parent sound within) m (length e.scopes) (new_scope (Some parent)) (get_next e.scopes [] (new_scope (Some parent)))
      ∙ ap (λ (o : Option Meaning). option_or o (local (with_child e parent) (Some parent) m)) (get-empty nat_cmp m)
      ∙ older_stands names e (new_scope (Some parent)) e.roots sound (sound_child e parent sound within) c parent within stands m

  pub child_beside : (c : Chain) (n : ℕ) → n < length e.scopes → StandsFor names e (Some n) c → StandsFor names (with_child e parent) (Some n) c
  child_beside = older_stands names e (new_scope (Some parent)) e.roots sound (sound_child e parent sound within)

  pub child_env : (given : Own) (uses : Uses) → EnvFor names e given uses → EnvFor names (with_child e parent) given uses
  child_env given uses = longer_env names e (new_scope (Some parent)) e.roots sound (sound_child e parent sound within) given uses
      (λ u n. own_stays names e (new_scope (Some parent)) e.roots sound (sound_child e parent sound within) n (get e.roots u) (λ r at. root_there e u r sound at))

nothing_bound : (names : Names) (o : Option Identifier) → None ≡ option_map (λ (v : Number). code.Local v.count) (option_and_then (found []) o)
nothing_bound names None = refl
nothing_bound names (Some i) = refl

module _ (names : Names) (e : Environment) (unit : ℕ) (sound : IsSound e) (new : get e.roots unit ≡ None) where
  pub root_stands : StandsFor names (with_root e unit) (Some (length e.scopes)) []
  root_stands = λ m.
      local_is (with_root e unit) (sound_root e unit sound new) m (length e.scopes) (new_scope None) (get_next e.scopes [] (new_scope None))
      ∙ nothing_bound names (slice_get names.idents m)

  pub root_beside : (c : Chain) (n : ℕ) → n < length e.scopes → StandsFor names e (Some n) c → StandsFor names (with_root e unit) (Some n) c
  root_beside = older_stands names e (new_scope None) (insert e.roots unit (length e.scopes)) sound (sound_root e unit sound new)

  -- the new scope binds nothing yet
  unbound : (n : ℕ) → bound_at (with_root e unit) (length e.scopes) n ≡ None
  unbound n =
      ap (λ (o : Option Scope). option_and_then (λ (s : Scope). get s.bound n) o) (get_next e.scopes [] (new_scope None)) ∙ get-empty nat_cmp n

  own_by : (u n : ℕ) (b : Bool) → eq_by_cmp nat_cmp u unit ≡ b → own e u n ≡ option_and_then (λ (r : ℕ). bound_at (with_root e unit) r n) (cond b (Some (length e.scopes)) (get e.roots u))
  own_by u n true same =
      ap (λ (o : Option ℕ). option_and_then (λ (r : ℕ). bound_at e r n) o) (ap (λ (v : ℕ). get e.roots v) (nat_cmp-IsAntisymmetric u unit ((Equal-is (nat_cmp u unit)).0 same)) ∙ new)
      ∙ sym (unbound n)
  own_by u n false other =
      own_stays names e (new_scope None) (insert e.roots unit (length e.scopes)) sound (sound_root e unit sound new) n (get e.roots u) (λ r at. root_there e u r sound at)

  pub root_env : (given : Own) (uses : Uses) → EnvFor names e given uses → EnvFor names (with_root e unit) given uses
  root_env given uses = longer_env names e (new_scope None) (insert e.roots unit (length e.scopes)) sound (sound_root e unit sound new) given uses
      (λ u n. own_by u n (eq_by_cmp nat_cmp u unit) refl
      ∙ ap (λ (o : Option ℕ). option_and_then (λ (r : ℕ). bound_at (with_root e unit) r n) o) (sym (get-insert nat_cmp_total e.roots unit (length e.scopes) u)))

-- ---- one identifier more in a scope

-- a number is that of an identifier where it is the identifier
same_place : (names : Names) → AreToldApart names.idents → (ident m : ℕ) (i j : Identifier) → IsIdent names ident i → IsIdent names m j → eq_by_cmp nat_cmp m ident ≡ same_ident i j
same_place names apart ident m i j at_i at_j =
    bool_same (eq_by_cmp nat_cmp m ident) (same_ident i j)
    (λ same. let equal : m ≡ ident = nat_cmp-IsAntisymmetric m ident ((Equal-is (nat_cmp m ident)).0 same) in
    let is : i ≡ j = same_Some i j (sym at_i ∙ ap (λ (n : ℕ). slice_get names.idents n) (sym equal) ∙ at_j) in
    subst (λ (x : Identifier). same_ident i x ≡ true) is (ident_itself i))
    (λ same. let equal : m ≡ ident = apart m ident (slice_get_within names.idents m j at_j) (at_j ∙ ap Some (sym (ident_told i j same)) ∙ sym at_i) in
    subst (λ (n : ℕ). eq_by_cmp nat_cmp m n ≡ true) equal ((Equal-is (nat_cmp m m)).1 (tied_itself nat_cmp_total m)))

-- and none where it is none
no_place : (names : Names) (ident m : ℕ) (i : Identifier) → IsIdent names ident i → slice_get names.idents m ≡ None → eq_by_cmp nat_cmp m ident ≡ false
no_place names ident m i at none =
    bool_same (eq_by_cmp nat_cmp m ident) false
    (λ same. none_some i (sym none ∙ ap (λ (n : ℕ). slice_get names.idents n) (nat_cmp-IsAntisymmetric m ident ((Equal-is (nat_cmp m ident)).0 same)) ∙ at))
    (λ no. absurd cc)

or_first : (b : Bool) (x : Meaning) (o p : Option Meaning) → option_or (cond b (Some x) o) p ≡ cond b (Some x) (option_or o p)
or_first true x o p = refl
or_first false x o p = refl

none_left : (a b : Bool) → (a || b) ≡ false → a ≡ false
none_left true b h = absurd cc
none_left false b h = refl

none_right : (a b : Bool) → (a || b) ≡ false → b ≡ false
none_right true b h = absurd cc
none_right false b h = h

module _ (names : Names) (e : Environment) (scope ident : ℕ) (m : Meaning) (sound : IsSound e) where
  abbrev changed : Environment
  changed = with_bound e scope ident m

  sound' : IsSound changed
  sound' = sound_bound e scope ident m sound

  -- scopes of which none is the one that changes
  beside : (Q : ℕ → Type 0) → ((n : ℕ) → Q n → n < length e.scopes) → ((n : ℕ) → Q n → n ≡ scope → ⊥) → ((n p : ℕ) (s : Scope) → Q n → slice_get e.scopes n ≡ Some s → s.parent ≡ Some p → Q p) → (q n : ℕ) → Q n → local e (Some n) q ≡ local changed (Some n) q
  beside Q within other inwards q n h = local_alike e changed q sound sound' Q
      (λ k h. let s = get_within e.scopes k (within k h) in
      (s.0, s.0, s.1, changed_there (bound_in ident m) e.scopes scope k (other k h) ∙ s.1, record { asked = λ f. refl }))
      inwards n h

  -- those further out than the one that changes
  further_out : (q p : ℕ) → p < scope → scope < length e.scopes → local e (Some p) q ≡ local changed (Some p) q
  further_out q p lt within = beside (λ n. n < scope) (λ n h. omega arith) (λ n h is. omega arith) (λ n r s h at is. let below = sound.older n r s at is in omega arith) q p lt

  -- the one that changes
  local_here : (q p : ℕ) (s : Scope) → slice_get e.scopes scope ≡ Some s → s.parent ≡ Some p → local changed (Some scope) q ≡ cond (eq_by_cmp nat_cmp q ident) (Some m) (local e (Some scope) q)
  local_here q p s at inside =
      let lt : p < scope = sound.older scope p s at inside in
      let within = slice_get_within e.scopes scope s at in
      let there = changed_here (bound_in ident m) e.scopes scope ∙ ap (λ (o : Option Scope). option_map (bound_in ident m) o) at in
      local_is changed sound' q scope (bound_in ident m s) there
      ∙ ap (λ (o : Option ℕ). outwards o (get (insert s.bound ident m) q) (λ r. local changed (Some r) q)) inside
      ∙ ap (λ (o : Option Meaning). option_or o (local changed (Some p) q)) (get-insert nat_cmp_total s.bound ident m q)
      ∙ or_first (eq_by_cmp nat_cmp q ident) m (get s.bound q) (local changed (Some p) q)
      ∙ ap (λ (o : Option Meaning). cond (eq_by_cmp nat_cmp q ident) (Some m) (option_or (get s.bound q) o)) (sym (further_out q p lt within))
      ∙ ap (λ (o : Option Meaning). cond (eq_by_cmp nat_cmp q ident) (Some m) o)
      (sym (local_is e sound q scope s at ∙ ap (λ (o : Option ℕ). outwards o (get s.bound q) (λ r. local e (Some r) q)) inside))

  -- scopes that don't have it around
  abbrev Apart : ℕ → Type 0
  Apart n = (n < length e.scopes) × (is_around e scope n ≡ false)

  onwards : (n : ℕ) (s : Scope) → Apart n → slice_get e.scopes n ≡ Some s → (nat_eq scope n || list_any (nat_eq scope) (around s.parent (λ p. path e p))) ≡ false
  onwards n s h at = sym (ap (λ (ns : List ℕ). list_any (nat_eq scope) ns) (path_at e sound n s at)) ∙ h.1

  apart_here : (n : ℕ) → Apart n → n ≡ scope → ⊥
  apart_here n h is =
      let s = get_within e.scopes n h.0 in
      eqb-false scope n (none_left (nat_eq scope n) (list_any (nat_eq scope) (around s.0.parent (λ p. path e p))) (onwards n s.0 h s.1)) (sym is)

  apart_around : (n p : ℕ) (s : Scope) → Apart n → slice_get e.scopes n ≡ Some s → s.parent ≡ Some p → Apart p
  apart_around n p s h at is =
      let lt : p < n = sound.older n p s at is in
      let rest = none_right (nat_eq scope n) (list_any (nat_eq scope) (around s.parent (λ r. path e r))) (onwards n s h at) in
      (omega (arith, h.0), subst (λ (o : Option ℕ). list_any (nat_eq scope) (around o (λ r. path e r)) ≡ false) is rest)

  pub apart_stands : (c : Chain) (n : ℕ) → n < length e.scopes → is_around e scope n ≡ false → StandsFor names e (Some n) c → StandsFor names changed (Some n) c
  apart_stands c n within none = stands_on names e changed c n (λ q. beside Apart (λ k h. h.0) apart_here apart_around q n (within, none))

  use_apart : (c : Chain) (o : Option ℕ) → ((n : ℕ) → o ≡ Some n → n < length e.scopes) → ((n : ℕ) → o ≡ Some n → is_around e scope n ≡ false) → StandsFor names e o c → StandsFor names changed o c
  use_apart c None there none stands = stands_nowhere names e changed c stands
  use_apart c (Some n) there none stands = apart_stands c n (there n refl) (none n refl) stands

  -- other scopes bind what they did
  bound_beside : (n r : ℕ) → (r ≡ scope → ⊥) → bound_at e r n ≡ bound_at changed r n
  bound_beside n r other =
      ap (λ (o : Option Scope). option_and_then (λ (s : Scope). get s.bound n) o) (sym (changed_there (bound_in ident m) e.scopes scope r other))

  own_beside : (n : ℕ) (o : Option ℕ) → ((r : ℕ) → o ≡ Some r → r ≡ scope → ⊥) → option_and_then (λ (r : ℕ). bound_at e r n) o ≡ option_and_then (λ (r : ℕ). bound_at changed r n) o
  own_beside n None other = refl
  own_beside n (Some r) other = bound_beside n r (other r refl)

  -- ---- a local scope

  -- a unit's own scope isn't local
  not_own : (u r p : ℕ) (s : Scope) → slice_get e.scopes scope ≡ Some s → s.parent ≡ Some p → get e.roots u ≡ Some r → r ≡ scope → ⊥
  not_own u r p s at inside is same =
      let o = sound.roots u r is in
      let equal : o.scope ≡ s = same_Some o.scope s (sym o.there ∙ ap (λ (n : ℕ). slice_get e.scopes n) same ∙ at) in
      none_some p (sym o.outermost ∙ ap (λ (t : Scope). t.parent) equal ∙ inside)

  pub local_env : (p : ℕ) (s : Scope) (given : Own) (uses : Uses) → slice_get e.scopes scope ≡ Some s → s.parent ≡ Some p → ((k : Number) (n : ℕ) → get e.uses k ≡ Some n → is_around e scope n ≡ false) → EnvFor names e given uses → EnvFor names changed given uses
  local_env p s given uses at inside none = env_on names e changed given uses
      (λ u n. own_beside n (get e.roots u) (λ r is. not_own u r p s at inside is))
      (λ k. use_apart (uses k) (get e.uses k) (sound.uses k) (none k))

  -- ---- a unit's own scope

  module _ (u : ℕ) (at : get e.roots u ≡ Some scope) where
    -- it isn't asked as a local one
    not_asked : (o : Option ℕ) (a b : Option Meaning) (f : ℕ → Option Meaning) → o ≡ None → outwards o a f ≡ outwards o b f
    not_asked None a b f is = refl
    not_asked (Some p) a b f is = none_some p (sym is)

    pub root_stays : (c : Chain) (n : ℕ) → n < length e.scopes → StandsFor names e (Some n) c → StandsFor names changed (Some n) c
    root_stays c n within = stands_on names e changed c n (λ q. local_alike e changed q sound sound' (λ k. k < length e.scopes)
        (λ k lt. elim (cases_eq k scope) [
          | inl is ↦ let o = sound.roots u scope at in
              let here : slice_get e.scopes k ≡ Some o.scope = ap (λ (r : ℕ). slice_get e.scopes r) is ∙ o.there in
              let there : slice_get changed.scopes k ≡ Some (bound_in ident m o.scope) =
              ap (λ (r : ℕ). slice_get changed.scopes r) is ∙ changed_here (bound_in ident m) e.scopes scope ∙ ap (λ (x : Option Scope). option_map (bound_in ident m) x) o.there in
              (o.scope, bound_in ident m o.scope, here, there, record { asked = λ f. not_asked o.scope.parent (get o.scope.bound q) (get (insert o.scope.bound ident m) q) f o.outermost })
          | inr other ↦ let s = get_within e.scopes k lt in
              (s.0, s.0, s.1, changed_there (bound_in ident m) e.scopes scope k other ∙ s.1, record { asked = λ f. refl })
        ])
        (λ k p s lt here is. let below = sound.older k p s here is in omega arith) n within)

    use_stays : (c : Chain) (o : Option ℕ) → ((n : ℕ) → o ≡ Some n → n < length e.scopes) → StandsFor names e o c → StandsFor names changed o c
    use_stays c None there stands = stands_nowhere names e changed c stands
    use_stays c (Some n) there stands = root_stays c n (there n refl) stands

    own_here : (n : ℕ) → own changed u n ≡ cond (eq_by_cmp nat_cmp n ident) (Some m) (own e u n)
    own_here n =
        let o = sound.roots u scope at in
        ap (λ (x : Option ℕ). option_and_then (λ (r : ℕ). bound_at changed r n) x) at
        ∙ ap (λ (x : Option Scope). option_and_then (λ (s : Scope). get s.bound n) x) (changed_here (bound_in ident m) e.scopes scope ∙ ap (λ (x : Option Scope). option_map (bound_in ident m) x) o.there)
        ∙ get-insert nat_cmp_total o.scope.bound ident m n
        ∙ ap (λ (x : Option Meaning). cond (eq_by_cmp nat_cmp n ident) (Some m) x)
        (sym (ap (λ (x : Option ℕ). option_and_then (λ (r : ℕ). bound_at e r n) x) at ∙ ap (λ (x : Option Scope). option_and_then (λ (s : Scope). get s.bound n) x) o.there))

    own_by_unit : (v n : ℕ) (b : Bool) → (u == v) ≡ b → own changed v n ≡ cond (b && eq_by_cmp nat_cmp n ident) (Some m) (own e v n)
    own_by_unit v n true same = let is : u ≡ v = eqb-true u v same in
        subst (λ (w : ℕ). own changed w n ≡ cond (eq_by_cmp nat_cmp n ident) (Some m) (own e w n)) is (own_here n)
    own_by_unit v n false other = sym (own_beside n (get e.roots v) (λ r is same. eqb-false u v other (sound.apart u v scope at (is ∙ ap Some same))))

    gives_cond : (b : Bool) (d : model.Meaning) (o : Option Meaning) (g : Option model.Meaning) → IsGivenMeaning names m d → Gives names o g → Gives names (cond b (Some m) o) (cond b (Some d) g)
    gives_cond true d o g is rest = is
    gives_cond false d o g is rest = rest

    and_none : (b : Bool) → (b && false) ≡ false
    and_none true = refl
    and_none false = refl

    gives_by : (given : Own) (v n : ℕ) (i : Identifier) (d : model.Meaning) (j : Option Identifier) → AreToldApart names.idents → IsIdent names ident i → IsGivenMeaning names m d → slice_get names.idents n ≡ j →
        Gives names (own e v n) (option_and_then (given v) j) → Gives names (cond ((u == v) && eq_by_cmp nat_cmp n ident) (Some m) (own e v n)) (option_and_then (with_given given u i d v) j)
    gives_by given v n i d None apart is meant none rest =
        subst (λ (b : Bool). Gives names (cond b (Some m) (own e v n)) None) (sym (ap (λ (b : Bool). (u == v) && b) (no_place names ident n i is none) ∙ and_none (u == v))) rest
    gives_by given v n i d (Some j) apart is meant there rest =
        subst (λ (b : Bool). Gives names (cond ((u == v) && b) (Some m) (own e v n)) (with_given given u i d v j)) (sym (same_place names apart ident n i j is there))
        (gives_cond ((u == v) && same_ident i j) d (own e v n) (given v j) meant rest)

    pub root_env_bound : (given : Own) (uses : Uses) (i : Identifier) (d : model.Meaning) → AreToldApart names.idents → IsIdent names ident i → IsGivenMeaning names m d → EnvFor names e given uses → EnvFor names changed (with_given given u i d) uses
    root_env_bound given uses i d apart is meant env = record {
      own = λ v n. subst (λ (o : Option Meaning). Gives names o (option_and_then (with_given given u i d v) (slice_get names.idents n))) (sym (own_by_unit v n (u == v) refl))
          (gives_by given v n i d (slice_get names.idents n) apart is meant refl (env.own v n));
      uses = λ k. use_stays (uses k) (get e.uses k) (sound.uses k) (env.uses k);
    }

-- ---- a binder more

parent_there : (e : Environment) (n p : ℕ) (o : Option Scope) → slice_get e.scopes n ≡ o → option_and_then (λ (s : Scope). s.parent) o ≡ Some p → (s : Scope) × (slice_get e.scopes n ≡ Some s) × (s.parent ≡ Some p)
parent_there e n p None at is = none_some p is
parent_there e n p (Some s) at is = (s, at, is)

map_cond : (b : Bool) (v : Number) (o : Option Number) → cond b (Some (code.Local v.count)) (option_map (λ (w : Number). code.Local w.count) o) ≡ option_map (λ (w : Number). code.Local w.count) (cond b (Some v) o)
map_cond true v o = refl
map_cond false v o = refl

bound_more : (names : Names) → AreToldApart names.idents → (ident q : ℕ) (i : Identifier) (v : Number) (c : Chain) (j : Option Identifier) → IsIdent names ident i → slice_get names.idents q ≡ j →
    cond (eq_by_cmp nat_cmp q ident) (Some (code.Local v.count)) (option_map (λ (w : Number). code.Local w.count) (option_and_then (found c) j))
    ≡ option_map (λ (w : Number). code.Local w.count) (option_and_then (found (record { ident = i; binder = v } ∷ c)) j)
bound_more names apart ident q i v c None at none = ap (λ (b : Bool). cond b (Some (code.Local v.count)) None) (no_place names ident q i at none)
bound_more names apart ident q i v c (Some j) at there =
    ap (λ (b : Bool). cond b (Some (code.Local v.count)) (option_map (λ (w : Number). code.Local w.count) (found c j))) (same_place names apart ident q i j at there)
    ∙ map_cond (same_ident i j) v (found c j)

pub bound_stands : (names : Names) (e : Environment) (scope ident p : ℕ) (i : Identifier) (v : Number) (c : Chain) → IsSound e → AreToldApart names.idents → IsIdent names ident i → parent_of e scope ≡ Some p →
    StandsFor names e (Some scope) c → StandsFor names (with_bound e scope ident (code.Local v.count)) (Some scope) (record { ident = i; binder = v } ∷ c)
bound_stands names e scope ident p i v c sound apart at inside stands =
    let s = parent_there e scope p (slice_get e.scopes scope) refl inside in
    λ q. local_here names e scope ident (code.Local v.count) sound q p s.0 s.1 s.2
    ∙ ap (λ (o : Option Meaning). cond (eq_by_cmp nat_cmp q ident) (Some (code.Local v.count)) o) (stands q)
    ∙ bound_more names apart ident q i v c (slice_get names.idents q) at refl

pub local_bound_env : (names : Names) (e : Environment) (scope ident p : ℕ) (m : Meaning) (given : Own) (uses : Uses) → IsSound e → parent_of e scope ≡ Some p →
    ((k : Number) (n : ℕ) → get e.uses k ≡ Some n → is_around e scope n ≡ false) → EnvFor names e given uses → EnvFor names (with_bound e scope ident m) given uses
local_bound_env names e scope ident p m given uses sound inside =
    let s = parent_there e scope p (slice_get e.scopes scope) refl inside in
    local_env names e scope ident m sound p s.0 given uses s.1 s.2

-- the scope of each use is this one, or hasn't this one around it
abbrev pub IsBesideOrAt : Environment → ℕ → Option ℕ → Type 0
IsBesideOrAt e scope o = (n : ℕ) → o ≡ Some n → (n ≡ scope) ⊎ (is_around e scope n ≡ false)

module _ (names : Names) (e : Environment) (scope ident p : ℕ) (i : Identifier) (v : Number) (sound : IsSound e) (apart : AreToldApart names.idents) (at : IsIdent names ident i) (inside : parent_of e scope ≡ Some p) where
  binder_at : (c : Chain) (n : ℕ) (b : Bool) → (n == scope) ≡ b → ((n ≡ scope) ⊎ (is_around e scope n ≡ false)) → n < length e.scopes → StandsFor names e (Some n) c →
      StandsFor names (with_bound e scope ident (code.Local v.count)) (Some n) (cond b (record { ident = i; binder = v } ∷ c) c)
  binder_at c n true same beside within stands =
      let is : n ≡ scope = eqb-true n scope same in
      subst (λ (m : ℕ). StandsFor names (with_bound e scope ident (code.Local v.count)) (Some m) (record { ident = i; binder = v } ∷ c)) (sym is)
      (bound_stands names e scope ident p i v c sound apart at inside (subst (λ (m : ℕ). StandsFor names e (Some m) c) is stands))
  binder_at c n false other (inl is) within stands = absurd (eqb-false n scope other is)
  binder_at c n false other (inr beside) within stands = apart_stands names e scope ident (code.Local v.count) sound c n within beside stands

  binder_by : (c : Chain) (o : Option ℕ) → IsBesideOrAt e scope o → ((n : ℕ) → o ≡ Some n → n < length e.scopes) → StandsFor names e o c →
      StandsFor names (with_bound e scope ident (code.Local v.count)) o (cond (is_at o scope) (record { ident = i; binder = v } ∷ c) c)
  binder_by c None beside there stands = stands_nowhere names e (with_bound e scope ident (code.Local v.count)) c stands
  binder_by c (Some n) beside there stands = binder_at c n (n == scope) refl (beside n refl) (there n refl) stands

  pub binder_env : (given : Own) (uses : Uses) → ((k : Number) → IsBesideOrAt e scope (get e.uses k)) → EnvFor names e given uses →
      EnvFor names (with_bound e scope ident (code.Local v.count)) given (with_binder e scope (record { ident = i; binder = v }) uses)
  binder_env given uses beside is =
      let s = parent_there e scope p (slice_get e.scopes scope) refl inside in
      record {
        own = λ u n. subst (λ (o : Option Meaning). Gives names o (option_and_then (given u) (slice_get names.idents n)))
            (own_beside names e scope ident (code.Local v.count) sound n (get e.roots u) (λ r root. not_own names e scope ident (code.Local v.count) sound u r p s.0 s.1 s.2 root)) (is.own u n);
        uses = λ k. binder_by (uses k) (get e.uses k) (beside k) (sound.uses k) (is.uses k);
      }

-- ---- a use more

-- the number of a use is the one that was noted
same_use : (k l : Number) → eq_by_cmp number_cmp l k ≡ same_number k l
same_use k l =
    bool_same (eq_by_cmp number_cmp l k) (same_number k l)
    (λ same. subst (λ (x : Number). same_number k x ≡ true) (sym (number_same l k ((Equal-is (number_cmp l k)).0 same))) (number_itself k))
    (λ same. subst (λ (x : Number). eq_by_cmp number_cmp x k ≡ true) (number_told k l same) ((Equal-is (number_cmp k k)).1 (tied_itself number_total k)))

-- where scopes are as they were, they stand for what they did
noted_stands : (names : Names) (e : Environment) (k : Number) (scope : ℕ) (c : Chain) (o : Option ℕ) → StandsFor names e o c → StandsFor names (with_use e k scope) o c
noted_stands names e k scope c None stands = stands
noted_stands names e k scope c (Some n) stands = stands

noted_by : (names : Names) (e : Environment) (k : Number) (scope : ℕ) (c d : Chain) (b : Bool) (o : Option ℕ) → StandsFor names e (Some scope) c → StandsFor names e o d → StandsFor names (with_use e k scope) (cond b (Some scope) o) (cond b c d)
noted_by names e k scope c d true o here there = noted_stands names e k scope c (Some scope) here
noted_by names e k scope c d false o here there = noted_stands names e k scope d o there

pub use_env : (names : Names) (e : Environment) (k : Number) (scope : ℕ) (c : Chain) (given : Own) (uses : Uses) → StandsFor names e (Some scope) c → EnvFor names e given uses → EnvFor names (with_use e k scope) given (with_use_under uses k c)
use_env names e k scope c given uses stands is = record {
  own = is.own;
  uses = λ l. subst (λ (o : Option ℕ). StandsFor names (with_use e k scope) o (with_use_under uses k c l)) (sym (get-insert number_total e.uses k scope l))
      (subst (λ (b : Bool). StandsFor names (with_use e k scope) (cond b (Some scope) (get e.uses l)) (with_use_under uses k c l)) (sym (same_use k l))
      (noted_by names e k scope c (uses l) (same_number k l) (get e.uses l) stands (is.uses l)));
}

-- what has nothing of a use means what it did
beyond_on : (given : Own) (uses : Uses) (k : Number) (c : Chain) (i : Identifier) → has_use k i ≡ false → beyond given (with_use_under uses k c) i ≡ beyond given uses i
beyond_on given uses k c (Written u s) none = refl
beyond_on given uses k c (Inserted i l) none =
    let other = none_left (same_number k l) (has_use k i) none in
    let rest = beyond_on given uses k c i (none_right (same_number k l) (has_use k i) none) in
    λ j. given_or (given l.unit (Inserted i l)) (local_or (found (cond (other j) c (uses l)) i) (rest j))

pub means_on : (given : Own) (uses : Uses) (k : Number) (c d : Chain) (i : Identifier) → has_use k i ≡ false → means given (with_use_under uses k c) d i ≡ means given uses d i
means_on given uses k c d i none = ap (λ (m : model.Meaning). local_or (found d i) m) (beyond_on given uses k c i none)
