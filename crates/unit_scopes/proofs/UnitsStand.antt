-- A definition of the unit: its own scope binds it, the table has it, and no binders change.
use Rattle.std.proofs.Common.{◌≡◌, ℕ, suc, ◌+◌, ◌<◌, ◌==◌, ◌&&◌, nat_eq, List, ◌∷◌, length, Bool, true, false, cond, Option, Some, refl, sym, ap, ◌∙◌, subst, arith, eq-eqb}
use Rattle.std.specs.Option.{option_map}
use Rattle.std.specs.BTreeMap.{BTreeMap, get, btree_map_len}
use Rattle.std.specs.FinMap as map
use Rattle.std.specs.declared.cmp.Ordering.{Ordering}
use Rattle.std.specs.declared.cmp.Ordering.TheVariants.{Less, Equal, Greater}
use Rattle.std.specs.Ordering.{nat_cmp, is_eq, MatchOrdering}
use Rattle.std.proofs.lemmas.Cmp.{ranked}
use Rattle.std.proofs.lemmas.Bool.{eqb-true}
use Rattle.std.proofs.lemmas.Bool.Decides.{nat_tests}
use Rattle.std.proofs.lemmas.Option.{slice_get_within}
use Rattle.scheme_model.specs.declared.Occ.{Occ}
use Rattle.scheme_model.specs.Ident.{Ident as Identifier, same_ident}
use Rattle.scheme_model.specs.Meaning as model
use Rattle.scheme_model.specs.Scopes.{Own, defined_or}
use Rattle.scheme_model.specs.Substitution.{Defined, defined_in, definition_count}
use Rattle.scheme_model.specs.ScopedExpansion.{Frames, ScopedState}
use Rattle.scheme_model.proofs.IdentLaws.{ident_told}
use Rattle.syntax_tree.specs.Names.{Names, AreToldApart}
use Rattle.syntax_tree.specs.Macros.{IsIdent}
use Rattle.syntax_tree.specs.declared.meaning.Meaning.TheVariants.{Global}
use Rattle.syntax_tree.specs.declared.trees.Work.{Work}
use Rattle.syntax_tree.proofs.RoleLaws.{same_by_number}
use Rattle.scope_env.specs.Environment.{Environment, IsSound, with_bound, bound_in}
use Rattle.scope_env.specs.Standing.{EnvFor}
use Rattle.scope_env.specs.Moved.{with_given, IsNamed}
use Rattle.scope_env.proofs.Places.{length-changed_at}
use Rattle.scope_env.proofs.StandingLaws.{root_stays, root_env_bound}
use Rattle.core_forms.specs.declared.shape.NamePart.{NamePart}
use Rattle.unit_scopes.specs.Chains.{chain_in, uses_in, imported_in, given_in}
use Rattle.unit_scopes.specs.State.{EnvStands, FormStands, Stands}
use Rattle.unit_scopes.specs.Stepped.{own_binder, with_told, with_definition, defined_here}
use Rattle.unit_scopes.specs.declared.scope.UnitScope.{UnitScope}
use Rattle.unit_scopes.proofs.LayoutLaws.{parent_bound}
use Rattle.unit_scopes.proofs.NumberedLaws.{count_is, one_more_numbered}

-- ---- what the unit gives

both : (a b : Bool) → (a && b) ≡ true → (a ≡ true) × (b ≡ true)
both true true h = (refl, refl)
both true false h = absurd cc
both false b h = absurd cc

module _ (s : ScopedState) (d : Defined) (own : d.unit ≡ s.unit) where
  abbrev after : ScopedState
  after = record s { table = d ∷ s.table }

  given_by : (v : ℕ) (j : Identifier) (q : Bool) → (d.unit == v && same_ident d.ident j) ≡ q →
      cond q (Some (model.Global d.unit d.ident)) (given_in s v j) ≡ defined_or (cond q (Some d) (defined_in s.table v j)) v j (imported_in s.entry v j)
  given_by v j true h =
      let p = both (d.unit == v) (same_ident d.ident j) h in
      let unit : d.unit ≡ v = eqb-true d.unit v p.0 in
      let ident = ident_told d.ident j p.1 in
      λ k. Some (model.Global (unit k) (ident k))
  given_by v j false h = refl

  given_so : with_given (given_in s) d.unit d.ident (model.Global d.unit d.ident) ≡ given_in after
  given_so = λ k v j. given_by v j (d.unit == v && same_ident d.ident j) refl k

  named_by : (names : Names) → IsNamed names d.ident → ((v : ℕ) (j : Identifier) (m : model.Meaning) → given_in s v j ≡ Some m → IsNamed names j) →
      (v : ℕ) (j : Identifier) (m : model.Meaning) (q : Bool) → (d.unit == v && same_ident d.ident j) ≡ q → defined_or (cond q (Some d) (defined_in s.table v j)) v j (imported_in s.entry v j) ≡ Some m → IsNamed names j
  named_by names here before v j m true h is = subst (IsNamed names) (ident_told d.ident j (both (d.unit == v) (same_ident d.ident j) h).1) here
  named_by names here before v j m false h is = before v j m is

  module _ (names : Names) (apart : AreToldApart names.idents) (env : Environment) (sound : IsSound env) (ls : List Frames) (root ident : ℕ) (at : map.get env.roots s.unit ≡ Some root) (is : IsIdent names ident d.ident) (e : EnvStands names env ls s) where
    abbrev new : Environment
    new = with_bound env root ident (Global s.unit ident)

    pub own_env : EnvStands names new ls after
    own_env = record {
      count = e.count ∙ sym (length-changed_at (bound_in ident (Global s.unit ident)) env.scopes root);
      scopes = λ n fs there. root_stays names env root ident (Global s.unit ident) sound s.unit at (chain_in s fs) n (subst (λ (len : ℕ). n < len) e.count (slice_get_within ls n fs there)) (e.scopes n fs there);
      given = subst (λ (g : Own). EnvFor names new g (uses_in s)) (ap (λ (u : ℕ). with_given (given_in s) u d.ident (model.Global u d.ident)) (sym own) ∙ given_so)
          (root_env_bound names env root ident (Global s.unit ident) sound s.unit at (given_in s) (uses_in s) d.ident (model.Global s.unit d.ident) apart is (λ unit form. (refl, is)) e.given);
      noted = e.noted;
      unnoted = e.unnoted;
      inside = λ n f hs there. let q = e.inside n f hs there in (q.0, parent_bound env root ident (Global s.unit ident) n q.0 q.1);
      entered = e.entered;
      defined = e.defined;
      named = e.named;
      given_named = λ v j m h. named_by names (ident, is) e.given_named v j m (d.unit == v && same_ident d.ident j) refl h;
    }

-- ---- what the unit has defined

key_is : (r : Ordering) (a n : ℕ) → MatchOrdering r (a < n) (a ≡ n) (n < a) → is_eq r ≡ nat_eq n a
key_is Less a n h = let e : nat_eq n a ≡ false = grind (arith, nat_tests) in sym e
key_is Equal a n h = let e : nat_eq n a ≡ true = grind (arith, nat_tests) in sym e
key_is Greater a n h = let e : nat_eq n a ≡ false = grind (arith, nat_tests) in sym e

pub at_key : (a n : ℕ) → is_eq (nat_cmp a n) ≡ nat_eq n a
at_key a n = key_is (nat_cmp a n) a n (ranked a n (nat_cmp a n) refl)

pub keyword_by : (d : Defined) (q : Bool) (o : Option Defined) → option_map (λ (x : Defined). x.keyword) (cond q (Some d) o) ≡ cond q (Some d.keyword) (option_map (λ (x : Defined). x.keyword) o)
keyword_by d true o = refl
keyword_by d false o = refl

pub known_by : (names : Names) (ident n : ℕ) (i : Identifier) (k v : Bool) (o : Option Bool) (q : Bool) → nat_eq n ident ≡ q → IsIdent names ident i → (o ≡ Some k → n < length names.idents) → cond q (Some v) o ≡ Some k → n < length names.idents
known_by names ident n i k v o true same is before h = subst (λ (x : ℕ). x < length names.idents) (sym (eqb-true n ident same)) (slice_get_within names.idents ident i is)
known_by names ident n i k v o false other is before h = before h

-- ---- the whole

-- the form at work tells it
told_stands : (names : Names) (u : UnitScope) (s : ScopedState) (name : NamePart) (i : Identifier) (occ : Option Occ) (keyword : Bool) → IsIdent names name.ident i → name.occ ≡ occ → btree_map_len u.defined ≡ definition_count s.table s.unit → FormStands names u.form s →
    FormStands names (with_told u name).form (defined_here i occ keyword s)
told_stands names u s name i occ keyword is place count f =
    let d : Defined = record { unit = s.unit; form = s.form; ident = i; keyword = keyword; occ = occ } in
    record {
      number = f.number;
      locals = f.locals;
      uses = f.uses;
      nodes = f.nodes;
      few_uses = f.few_uses;
      few_nodes = f.few_nodes;
      few_locals = f.few_locals;
      definitions = one_more_numbered names s.unit s.form u.form.trace.definitions (own_binder u name) d s.table refl refl
          (record { form = refl; number_is = count ∙ sym (count_is s.unit s.table); ident = is; place = place }) f.definitions;
      keywords = f.keywords;
      met = f.met;
    }

pub own_definition_stands : (work : Work) (u : UnitScope) (ls : List Frames) (s : ScopedState) (name : NamePart) (i : Identifier) (occ : Option Occ) (keyword : Bool) (defined : BTreeMap ℕ Bool) →
    AreToldApart work.symbols.idents → IsSound u.env → IsIdent work.symbols name.ident i → name.occ ≡ occ → ((n : ℕ) → get nat_cmp defined n ≡ cond (is_eq (nat_cmp name.ident n)) (Some keyword) (get nat_cmp u.defined n)) → btree_map_len defined ≡ btree_map_len u.defined + 1 → Stands work u ls s →
    Stands work (with_definition (with_told u name) name.ident defined) ls (defined_here i occ keyword s)
own_definition_stands work u ls s name i occ keyword defined apart sound is place put more e =
    let ident = name.ident in
    let d : Defined = record { unit = s.unit; form = s.form; ident = i; keyword = keyword; occ = occ } in
    let m = e.macros in
    let at : map.get u.env.roots s.unit ≡ Some u.root = ap (map.get u.env.roots) (sym e.unit) ∙ e.own in
    let itself = eq-eqb s.unit s.unit refl in
    let found : (n : ℕ) → get nat_cmp defined n ≡ cond (nat_eq n ident) (Some keyword) (get nat_cmp u.defined n) = λ n. put n ∙ ap (λ b. cond b (Some keyword) (get nat_cmp u.defined n)) (at_key ident n) in
    record {
      unit = e.unit;
      program = e.program;
      env = subst (λ (w : ℕ). EnvStands work.symbols (with_bound u.env u.root ident (Global w ident)) ls (defined_here i occ keyword s)) (sym e.unit) (own_env s d refl work.symbols apart u.env sound ls u.root ident at is e.env);
      macros = record { there = m.there; idents = m.idents; symbols = m.symbols; free = m.free; known_idents = m.known_idents; known_symbols = m.known_symbols };
      root = e.root;
      own = e.own;
      begun = record { frames = e.begun.frames; bodies = e.begun.bodies; macros = e.begun.macros };
      form = told_stands work.symbols u s name i occ keyword is place e.count e.form;
      defined = λ n j there.
          found n
          ∙ ((λ k. cond (sym (same_by_number work.symbols apart ident n i j is there) k) (Some keyword) (e.defined n j there k))
          ∙ (sym (keyword_by d (same_ident i j) (defined_in s.table s.unit j))
          ∙ (λ k. option_map (λ (x : Defined). x.keyword) (cond (sym itself k && same_ident i j) (Some d) (defined_in s.table s.unit j)))));
      known = λ n k h. known_by work.symbols ident n i k keyword (get nat_cmp u.defined n) (nat_eq n ident) refl is (e.known n k) (sym (found n) ∙ h);
      count = let one : btree_map_len defined ≡ suc (definition_count s.table s.unit) = omega (arith, more, e.count) in one ∙ ap (λ b. cond b (suc (definition_count s.table s.unit)) (definition_count s.table s.unit)) (sym itself);
    }
