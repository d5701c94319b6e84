-- A unit is begun: its own scope is new and binds what it imports, and all that stood before stands.
use Rattle.std.proofs.Common.{◌≡◌, ℕ, ◌+◌, ◌<◌, ◌==◌, ◌&&◌, List, [], ◌∷◌, ◌++◌, length, slice_get, Bool, true, false, cond, Option, Some, None, inl, inr, refl, sym, ap, ◌∙◌, subst, eq-eqb, arith}
use Rattle.std.specs.Prelude.{◌⊎◌}
use Rattle.std.specs.Option.{option_and_then}
use Rattle.std.specs.FinMap as map
use Rattle.std.specs.FinMap.{get-insert}
use Rattle.std.specs.Ordering.{nat_cmp, eq_by_cmp}
use Rattle.std.specs.Cmp.{nat_cmp_total}
use Rattle.std.specs.Str.{bytes_eq}
use Rattle.std.proofs.lemmas.Slice.Eq.{bytes_eq-Decides}
use Rattle.std.proofs.lemmas.Bool.{eqb-true, cases_eq}
use Rattle.std.proofs.lemmas.List.{length-append}
use Rattle.std.proofs.lemmas.Option.{slice_get_within, same_Some}
use Rattle.scheme_model.specs.Identifiers.{Number}
use Rattle.scheme_model.specs.Ident.{Ident as Identifier, Written, Inserted, same_ident}
use Rattle.scheme_model.specs.Meaning as model
use Rattle.scheme_model.specs.Scopes.{Own, Uses, defined_or}
use Rattle.scheme_model.specs.Substitution.{Defined, defined_in}
use Rattle.scheme_model.specs.ScopedExpansion.{Frame, Bind, Enter, Frames, BodyDefinitions, ScopedState, around}
use Rattle.scheme_model.proofs.IdentLaws.{ident_told, bool_same}
use Rattle.syntax_tree.specs.Names.{Names, AreToldApart}
use Rattle.syntax_tree.specs.Macros.{IsIdent}
use Rattle.syntax_tree.specs.Meant.{IsSymbol, IsGivenMeaning}
use Rattle.syntax_tree.specs.declared.meaning.Meaning.{Meaning}
use Rattle.syntax_tree.proofs.Places.{none_some, get_front, push_cases}
use Rattle.scope_env.specs.Environment.{Environment, Scope, IsSound, new_scope, with_root, with_bound, bound_in}
use Rattle.scope_env.specs.Resolved.{bound_at}
use Rattle.scope_env.specs.Standing.{StandsFor, Gives, EnvFor}
use Rattle.scope_env.specs.Moved.{parent_of, with_given, IsNamed, AreNamed, AreGivenNamed}
use Rattle.scope_env.proofs.Places.{length-changed_at}
use Rattle.scope_env.proofs.StandingLaws.{root_stands, root_beside, root_env, root_stays, root_env_bound}
use Rattle.unit_scopes.specs.Chains.{chain_in, uses_in, imported_in, given_in}
use Rattle.unit_scopes.specs.Opened.{with_imports, started, ImportsFor}
use Rattle.unit_scopes.specs.State.{IsBegun, AreBegun, BodiesBegun, HasBegun, AreEntered, AreDefined, EnvStands}
use Rattle.unit_scopes.specs.declared.scope.Imported.{Imported}
use Rattle.unit_scopes.proofs.LayoutLaws.{parent_bound}

-- ---- a unit that wasn't begun

-- nothing is given in it
nothing_given : (names : Names) (env : Environment) (given : Own) (used : Uses) (unit : ℕ) → map.get env.roots unit ≡ None → EnvFor names env given used → AreGivenNamed names given → (i : Identifier) → given unit i ≡ None
nothing_given names env given used unit new e named i = by (given unit i) refl
  where
    by : (o : Option model.Meaning) → given unit i ≡ o → given unit i ≡ None
    by None is = is
    by (Some m) is =
        let n = named unit i m is in
        let here : Gives names None (option_and_then (given unit) (slice_get names.idents n.0)) =
        subst (λ (o : Option ℕ). Gives names (option_and_then (λ (r : ℕ). bound_at env r n.0) o) (option_and_then (given unit) (slice_get names.idents n.0))) new (e.own unit n.0) in
        let there : Gives names None (given unit i) = subst (λ (o : Option Identifier). Gives names None (option_and_then (given unit) o)) n.1 here in
        absurd (subst (Gives names None) is there)

-- no number is of it
not_begun : {P : Type 0} (roots : map.FinMap nat_cmp ℕ) (unit : ℕ) (v : Number) → map.get roots unit ≡ None → IsBegun roots v → v.unit ≡ unit → P
not_begun roots unit v new b same = none_some b.0 (sym new ∙ (ap (map.get roots) (sym same) ∙ b.1))

all_entered : (roots : map.FinMap nat_cmp ℕ) (t : ScopedState) → map.get roots t.unit ≡ None → (fs : Frames) → AreBegun roots fs → AreEntered t fs
all_entered roots t new [] h = tt
all_entered roots t new (Bind x v ∷ fs) h = all_entered roots t new fs h
all_entered roots t new (Enter b u ∷ fs) h = (λ same. not_begun roots t.unit b new h.0 same, all_entered roots t new fs h.1)

all_defined : (roots : map.FinMap nat_cmp ℕ) (t : ScopedState) → map.get roots t.unit ≡ None → (ds : BodyDefinitions) → BodiesBegun roots ds → AreDefined t ds
all_defined roots t new [] h = tt
all_defined roots t new (d ∷ ds) h = (λ same. not_begun roots t.unit d.body new h.0 same, all_defined roots t new ds h.1)

-- ---- numbers stay those of units that were begun

module _ (roots : map.FinMap nat_cmp ℕ) (unit root : ℕ) where
  abbrev more : map.FinMap nat_cmp ℕ
  more = map.insert roots unit root

  begun_on : (v : Number) → IsBegun roots v → IsBegun more v
  begun_on v b = by (eq_by_cmp nat_cmp v.unit unit) refl
    where
      by : (q : Bool) → eq_by_cmp nat_cmp v.unit unit ≡ q → IsBegun more v
      by true same = (root, get-insert nat_cmp_total roots unit root v.unit ∙ ap (λ q. cond q (Some root) (map.get roots v.unit)) same)
      by false other = (b.0, get-insert nat_cmp_total roots unit root v.unit ∙ (ap (λ q. cond q (Some root) (map.get roots v.unit)) other ∙ b.1))

  all_begun_on : (fs : Frames) → AreBegun roots fs → AreBegun more fs
  all_begun_on [] h = tt
  all_begun_on (Bind x v ∷ fs) h = all_begun_on fs h
  all_begun_on (Enter b u ∷ fs) h = (begun_on b h.0, all_begun_on fs h.1)

  bodies_begun_on : (ds : BodyDefinitions) → BodiesBegun roots ds → BodiesBegun more ds
  bodies_begun_on [] h = tt
  bodies_begun_on (d ∷ ds) h = (begun_on d.body h.0, bodies_begun_on ds h.1)

  pub has_begun_on : (ls : List Frames) (s : ScopedState) (program : Bool) (imported : List ℕ → Option model.Meaning) → HasBegun roots ls s → HasBegun more (ls ++ [] ∷ []) (started unit program (with_imports unit imported s.entry) s)
  has_begun_on ls s program imported h = record {
    frames = λ n fs there. elim (push_cases ls [] n fs there) [ inl old ↦ all_begun_on fs (h.frames n fs old) | inr last ↦ subst (AreBegun more) (sym last.1) tt ];
    bodies = bodies_begun_on s.definitions h.bodies;
    macros = λ v is. begun_on v (h.macros v is);
  }

-- ---- its own scope

abbrev pub nothing : List ℕ → Option model.Meaning
nothing x = None

either_none : (p : Bool) (o : Option model.Meaning) → o ≡ None → cond p o None ≡ None
either_none true o h = h
either_none false o h = refl

-- what is given where a unit's imports are other ones
module _ (unit : ℕ) (d : Option Defined) (v : ℕ) (i : Identifier) where
  -- none are begun with, where it gave nothing
  begun_with : (p q : Bool) (fy ev : Option model.Meaning) → fy ≡ None → (q ≡ true → defined_or d v i (cond p ev None) ≡ None) → defined_or d v i (cond p ev None) ≡ defined_or d v i (cond p (cond q fy ev) None)
  begun_with p false fy ev none gave = refl
  begun_with p true fy ev none gave = gave refl ∙ sym (by d (gave refl))
    where
      by : (o : Option Defined) → defined_or o v i (cond p ev None) ≡ None → defined_or o v i (cond p fy None) ≡ None
      by None h = either_none p fy none
      by (Some x) h = none_some (model.Global v i) (sym h)

  at_unit : (p t : Bool) (m : model.Meaning) (fy : Option model.Meaning) → cond (p && t) (Some m) (cond p fy None) ≡ cond p (cond t (Some m) fy) None
  at_unit true true m fy = refl
  at_unit true false m fy = refl
  at_unit false t m fy = refl

  -- one more
  one_more : (a b t p q : Bool) (m : model.Meaning) (fy ev : Option model.Meaning) → q ≡ a → (a ≡ true → b ≡ p) → (a ≡ true → d ≡ None) →
      cond (a && (b && t)) (Some m) (defined_or d v i (cond p (cond q fy ev) None)) ≡ defined_or d v i (cond p (cond q (cond t (Some m) fy) ev) None)
  one_more true b t p q m fy ev same inside none =
      let n = none refl in
      let u = inside refl in
      (λ k. cond (u k && t) (Some m) (defined_or (n k) v i (cond p (cond (same k) fy ev) None)))
      ∙ (at_unit p t m fy
      ∙ (λ k. defined_or (sym n k) v i (cond p (cond (sym same k) (cond t (Some m) fy) ev) None)))
  one_more false b t p q m fy ev same inside none =
      (λ k. defined_or d v i (cond p (cond (same k) fy ev) None)) ∙ (λ k. defined_or d v i (cond p (cond (sym same k) (cond t (Some m) fy) ev) None))

given_none : (table : Option Defined) (v : ℕ) (i : Identifier) (o : Option model.Meaning) → defined_or table v i o ≡ None → table ≡ None
given_none None v i o h = refl
given_none (Some d) v i o h = none_some (model.Global v i) (sym h)

module _ (s : ScopedState) (unit : ℕ) (program : Bool) where
  -- the unit with these imports
  abbrev pub importing : (List ℕ → Option model.Meaning) → ScopedState
  importing f = started unit program (with_imports unit f s.entry) s

  begun_by : ((i : Identifier) → given_in s unit i ≡ None) → (v : ℕ) (i : Identifier) → given_in s v i ≡ given_in (importing nothing) v i
  begun_by none v (Written w x) =
      begun_with unit (defined_in s.table v (Written w x)) v (Written w x) (v == w) (v == unit) None (s.entry v x) refl
      (λ same. ap (λ (u : ℕ). given_in s u (Written w x)) (eqb-true v unit same) ∙ none (Written w x))
  begun_by none v (Inserted i k) = refl

  given_begun : ((i : Identifier) → given_in s unit i ≡ None) → given_in s ≡ given_in (importing nothing)
  given_begun none = λ k v i. begun_by none v i k

not_nil : {P : Type 0} (f : Frame) (hs : Frames) → f ∷ hs ≡ [] → P
not_nil f hs h = absurd cc

-- a new scope has no other around it, and others have those that they had
parent_root : (e : Environment) (unit n p : ℕ) → parent_of e n ≡ Some p → parent_of (with_root e unit) n ≡ Some p
parent_root e unit n p inside = by (slice_get e.scopes n) refl inside
  where
    by : (o : Option Scope) → slice_get e.scopes n ≡ o → option_and_then (λ (s : Scope). s.parent) o ≡ Some p → parent_of (with_root e unit) n ≡ Some p
    by None at is = none_some p is
    by (Some s) at is = ap (λ (o : Option Scope). option_and_then (λ (x : Scope). x.parent) o) (get_front e.scopes (new_scope None ∷ []) n s at) ∙ is

module _ (names : Names) (env : Environment) (sound : IsSound env) (ls : List Frames) (s : ScopedState) (unit : ℕ) (program : Bool) (new : map.get env.roots unit ≡ None) (begun : HasBegun env.roots ls s) (e : EnvStands names env ls s) where
  abbrev opened : Environment
  opened = with_root env unit

  abbrev first : ScopedState
  first = importing s unit program nothing

  within_env : (n : ℕ) (fs : Frames) → slice_get ls n ≡ Some fs → n < length env.scopes
  within_env n fs at = subst (λ (len : ℕ). n < len) e.count (slice_get_within ls n fs at)

  given_so : given_in s ≡ given_in first
  given_so = given_begun s unit program (nothing_given names env (given_in s) (uses_in s) unit new e.given e.given_named)

  pub opened_env_stands : EnvStands names opened (ls ++ [] ∷ []) first
  opened_env_stands = record {
    count = length-append ls ([] ∷ []) ∙ (ap (λ n. n + 1) e.count ∙ sym (length-append env.scopes (new_scope None ∷ [])));
    scopes = λ n fs there. elim (push_cases ls [] n fs there) [
      | inl old ↦ root_beside names env unit sound new (chain_in s fs) n (within_env n fs old) (e.scopes n fs old)
      | inr last ↦ subst (λ (m : ℕ). StandsFor names opened (Some m) (chain_in s fs)) (sym (last.0 ∙ e.count))
          (subst (λ (hs : Frames). StandsFor names opened (Some (length env.scopes)) (chain_in s hs)) (sym last.1) (root_stands names env unit sound new))
    ];
    given = subst (λ (g : Own). EnvFor names opened g (uses_in s)) given_so (root_env names env unit sound new (given_in s) (uses_in s) e.given);
    noted = λ k n is. get_front ls ([] ∷ []) n (around s.places k) (e.noted k n is);
    unnoted = e.unnoted;
    inside = λ n f hs there. elim (push_cases ls [] n (f ∷ hs) there) [
      | inl old ↦ let p = e.inside n f hs old in (p.0, parent_root env unit n p.0 p.1)
      | inr last ↦ not_nil f hs last.1
    ];
    entered = λ n fs there. elim (push_cases ls [] n fs there) [
      | inl old ↦ all_entered env.roots first new fs (begun.frames n fs old)
      | inr last ↦ subst (AreEntered first) (sym last.1) tt
    ];
    defined = all_defined env.roots first new s.definitions begun.bodies;
    named = λ n fs there. elim (push_cases ls [] n fs there) [
      | inl old ↦ e.named n fs old
      | inr last ↦ subst (λ (hs : Frames). AreNamed names (chain_in s hs)) (sym last.1) tt
    ];
    given_named = subst (AreGivenNamed names) given_so e.given_named;
  }

  -- it has no definitions
  pub none_defined : (i : Identifier) → defined_in s.table unit i ≡ None
  none_defined i =
      given_none (defined_in s.table unit i) unit i (imported_in s.entry unit i) (nothing_given names env (given_in s) (uses_in s) unit new e.given e.given_named i)

-- ---- one import more

both : (a b : Bool) → (a && b) ≡ true → (a ≡ true) × (b ≡ true)
both true true h = (refl, refl)
both true false h = absurd cc
both false b h = absurd cc

abbrev pub import_more : List ℕ → model.Meaning → (List ℕ → Option model.Meaning) → List ℕ → Option model.Meaning
import_more x m f y = cond (bytes_eq x y) (Some m) (f y)

turned : (a b : ℕ) → (a == b) ≡ (b == a)
turned a b = bool_same (a == b) (b == a) (λ h. eq-eqb b a (sym (eqb-true a b h))) (λ h. eq-eqb a b (sym (eqb-true b a h)))

module _ (s : ScopedState) (unit : ℕ) (program : Bool) (x : List ℕ) (m : model.Meaning) (f : List ℕ → Option model.Meaning) (none : (i : Identifier) → defined_in s.table unit i ≡ None) where
  abbrev before : ScopedState
  before = importing s unit program f

  abbrev after : ScopedState
  after = importing s unit program (import_more x m f)

  no_more : (a : Bool) (o : Option model.Meaning) → cond (a && false) (Some m) o ≡ o
  no_more true o = refl
  no_more false o = refl

  given_by : (v : ℕ) (i : Identifier) → with_given (given_in before) unit (Written unit x) m v i ≡ given_in after v i
  given_by v (Written w y) =
      one_more unit (defined_in s.table v (Written w y)) v (Written w y) (unit == v) (unit == w) (bytes_eq x y) (v == w) (v == unit) m (f y) (s.entry v y) (turned v unit)
      (λ h. ap (λ (u : ℕ). u == w) (eqb-true unit v h))
      (λ h. ap (λ (u : ℕ). defined_in s.table u (Written w y)) (sym (eqb-true unit v h)) ∙ none (Written w y))
  given_by v (Inserted i k) = no_more (unit == v) (given_in before v (Inserted i k))

  more_so : with_given (given_in before) unit (Written unit x) m ≡ given_in after
  more_so = λ k v i. given_by v i k

  module _ (names : Names) (apart : AreToldApart names.idents) (env : Environment) (sound : IsSound env) (ls : List Frames) (root ident : ℕ) (c : Meaning) (at : map.get env.roots unit ≡ Some root) (is : IsIdent names ident (Written unit x))
      (means : IsGivenMeaning names c m) (e : EnvStands names env ls before) where
    named_by : (v : ℕ) (j : Identifier) (n : model.Meaning) (q : Bool) → (unit == v && same_ident (Written unit x) j) ≡ q → cond q (Some m) (given_in before v j) ≡ Some n → IsNamed names j
    named_by v j n true h found = subst (IsNamed names) (ident_told (Written unit x) j (both (unit == v) (same_ident (Written unit x) j) h).1) (ident, is)
    named_by v j n false h found = e.given_named v j n found

    pub imported_env_stands : EnvStands names (with_bound env root ident c) ls after
    imported_env_stands = record {
      count = e.count ∙ sym (length-changed_at (bound_in ident c) env.scopes root);
      scopes = λ n fs there. root_stays names env root ident c sound unit at (chain_in s fs) n (subst (λ (len : ℕ). n < len) e.count (slice_get_within ls n fs there)) (e.scopes n fs there);
      given = subst (λ (g : Own). EnvFor names (with_bound env root ident c) g (uses_in s)) more_so (root_env_bound names env root ident c sound unit at (given_in before) (uses_in s) (Written unit x) m apart is means e.given);
      noted = e.noted;
      unnoted = e.unnoted;
      inside = λ n g hs there. let q = e.inside n g hs there in (q.0, parent_bound env root ident c n q.0 q.1);
      entered = e.entered;
      defined = e.defined;
      named = e.named;
      given_named = subst (AreGivenNamed names) more_so (λ v j n found. named_by v j n (unit == v && same_ident (Written unit x) j) refl found);
    }

-- ---- all imports

-- those up to a place are the unit's
pub record SoFar (names : Names) (xs : List Imported) (k : ℕ) (imported so_far : List ℕ → Option model.Meaning) : Type 0 where
  pub only : (y : List ℕ) (m : model.Meaning) → so_far y ≡ Some m → imported y ≡ Some m
  pub has : (n : ℕ) (x : Imported) (y : List ℕ) → n < k → slice_get xs n ≡ Some x → IsSymbol names x.symbol y → so_far y ≡ imported y

pub so_far_none : (names : Names) (xs : List Imported) (imported : List ℕ → Option model.Meaning) → SoFar names xs 0 imported nothing
so_far_none names xs imported = record {
  only = λ y m h. none_some m h;
  has = λ n x y lt there is. absurd (omega (arith, lt));
}

not_both : {P : Type 0} (b : Bool) → b ≡ false → b ≡ true → P
not_both b f g = absurd cc

pub so_far_more : (names : Names) (xs : List Imported) (k : ℕ) (imported so_far : List ℕ → Option model.Meaning) (x : Imported) (y : List ℕ) (m : model.Meaning) → slice_get xs k ≡ Some x → IsSymbol names x.symbol y → imported y ≡ Some m →
    SoFar names xs k imported so_far → SoFar names xs (k + 1) imported (import_more y m so_far)
so_far_more names xs k imported so_far x y m there is means h = record {
  only = λ z n found. only_by z n (bytes_eq y z) refl found;
  has = λ n w z lt at of. by z (bytes_eq y z) refl (has_by n w z lt at of);
}
  where
    here : (z : List ℕ) → bytes_eq y z ≡ true → Some m ≡ imported z
    here z same = sym means ∙ ap imported ((bytes_eq-Decides y z).0 same)

    only_by : (z : List ℕ) (n : model.Meaning) (q : Bool) → bytes_eq y z ≡ q → cond q (Some m) (so_far z) ≡ Some n → imported z ≡ Some n
    only_by z n true same found = sym (here z same) ∙ found
    only_by z n false other found = h.only z n found

    has_by : (n : ℕ) (w : Imported) (z : List ℕ) → n < k + 1 → slice_get xs n ≡ Some w → IsSymbol names w.symbol z → (so_far z ≡ imported z) ⊎ (bytes_eq y z ≡ true)
    has_by n w z lt at of = elim (cases_eq n k) [
      | inl same ↦ let which : w ≡ x = same_Some w x (sym at ∙ (ap (slice_get xs) same ∙ there)) in
          let spelt : y ≡ z = same_Some y z (sym is ∙ (ap (λ (v : Imported). slice_get names.symbols v.symbol) (sym which) ∙ of)) in
          inr ((bytes_eq-Decides y z).1 spelt)
      | inr other ↦ inl (h.has n w z (omega (arith, lt, other)) at of)
    ]

    by : (z : List ℕ) (q : Bool) → bytes_eq y z ≡ q → (so_far z ≡ imported z) ⊎ (bytes_eq y z ≡ true) → cond q (Some m) (so_far z) ≡ imported z
    by z true same h = here z same
    by z false other (inl old) = old
    by z false other (inr same) = not_both (bytes_eq y z) other same

pub so_far_all : (names : Names) (xs : List Imported) (imported so_far : List ℕ → Option model.Meaning) → ImportsFor names xs imported → SoFar names xs (length xs) imported so_far → so_far ≡ imported
so_far_all names xs imported so_far imports h = λ k y. by y (imported y) refl k
  where
    none_by : (y : List ℕ) (o : Option model.Meaning) → so_far y ≡ o → imported y ≡ None → so_far y ≡ None
    none_by y None is none = is
    none_by y (Some m) is none = none_some m (sym none ∙ h.only y m is)

    by : (y : List ℕ) (o : Option model.Meaning) → imported y ≡ o → so_far y ≡ imported y
    by y None is = none_by y (so_far y) refl is ∙ sym is
    by y (Some m) is = let p = imports.only y m is in h.has p.0 p.1.0 y (slice_get_within xs p.0 p.1.0 p.1.1) p.1.1 p.1.2
