-- Bodies: one that is entered has a new scope, and what is defined in it is a binder more there and nowhere else.
use Rattle.std.proofs.Common.{◌≡◌, ℕ, suc, ◌+◌, ◌<◌, ◌≤◌, ◌==◌, ◌||◌, List, [], ◌∷◌, ◌++◌, length, slice_get, Bool, true, false, cond, Option, Some, None, inl, inr, refl, sym, ap, ◌∙◌, subst, arith, eq-eqb}
use Rattle.std.specs.FinMap as map
use Rattle.std.proofs.lemmas.Bool.{ne_eqb, false_from_ne_true}
use Rattle.std.proofs.lemmas.List.{length-append}
use Rattle.std.proofs.lemmas.Option.{slice_get_within}
use Rattle.scheme_model.specs.Identifiers.{Number, same_number}
use Rattle.scheme_model.specs.Ident.{Ident as Identifier}
use Rattle.scheme_model.specs.ExpansionFaults.{Named}
use Rattle.scheme_model.specs.Scopes.{Bound, Uses}
use Rattle.scheme_model.specs.Substitution.{Clock, at_form}
use Rattle.scheme_model.specs.ScopedExpansion.{Bind, Enter, Frames, BodyDefinition, BodyDefinitions, ScopedState, around, next_number, definition_added}
use Rattle.scheme_model.proofs.Clocks.{leq_counted}
use Rattle.scheme_model.proofs.IdentLaws.{number_told, number_itself}
use Rattle.syntax_tree.specs.Names.{Names, AreToldApart}
use Rattle.syntax_tree.specs.Macros.{IsIdent}
use Rattle.syntax_tree.specs.declared.meaning.Meaning.TheVariants.{Local}
use Rattle.syntax_tree.specs.declared.trees.Work.{Work}
use Rattle.syntax_tree.proofs.Places.{get_next, push_cases}
use Rattle.scope_env.specs.Environment.{Environment, IsSound, with_child, with_bound, bound_in}
use Rattle.scope_env.specs.Standing.{StandsFor, EnvFor}
use Rattle.scope_env.specs.Moved.{parent_of, is_around, is_at, with_binder, AreNamed}
use Rattle.scope_env.proofs.Places.{length-changed_at}
use Rattle.scope_env.proofs.StandingLaws.{apart_stands, bound_stands, binder_env}
use Rattle.scope_env.proofs.AroundLaws.{older_apart}
use Rattle.unit_scopes.specs.Chains.{body_chain, chain_of, chain_in, uses_in, given_in}
use Rattle.unit_scopes.specs.Binds.{with_locals}
use Rattle.unit_scopes.specs.State.{HasBegun, BodiesBegun, IsEntered, AreEntered, AreDefined, EnvStands, Stands, most_locals}
use Rattle.unit_scopes.specs.Stepped.{taken, entered, entered_frames, is_inside, IsOpenBody}
use Rattle.unit_scopes.specs.declared.scope.UnitScope.{UnitScope}
use Rattle.unit_scopes.proofs.CountingStands.{counted_here, locals_stand}
use Rattle.unit_scopes.proofs.LayoutLaws.{parent_bound, child_env_stands, scope_more}
use Rattle.unit_scopes.proofs.BindersStand.{taken_none, taken_on}

-- ---- a body's number is new

none_of : (a b : Bool) → (a || b) ≡ false → (a ≡ false) × (b ≡ false)
none_of true b h = absurd cc
none_of false b h = (refl, h)

not_entered : (s : ScopedState) → IsEntered s (next_number s s.bodies) → ⊥
not_entered s h = let lt : s.bodies s.form < s.bodies s.form = h refl in absurd (omega arith)

new_apart : (s : ScopedState) (c : Number) → IsEntered s c → same_number (next_number s s.bodies) c ≡ false
new_apart s c h = false_from_ne_true (same_number (next_number s s.bodies) c) (λ e. not_entered s (subst (IsEntered s) (sym (number_told (next_number s s.bodies) c e)) h))

apart_new : (s : ScopedState) (c : Number) → IsEntered s c → same_number c (next_number s s.bodies) ≡ false
apart_new s c h = false_from_ne_true (same_number c (next_number s s.bodies)) (λ e. not_entered s (subst (IsEntered s) (number_told c (next_number s s.bodies) e) h))

pub outside_new : (s : ScopedState) (gs : Frames) → AreEntered s gs → is_inside (next_number s s.bodies) gs ≡ false
outside_new s [] h = refl
outside_new s (Bind x v ∷ gs) h = outside_new s gs h
outside_new s (Enter c u ∷ gs) h =
    let here = new_apart s c h.0 in
    let rest = outside_new s gs h.1 in
    λ j. here j || rest j

pub none_defined : (s : ScopedState) (ds : BodyDefinitions) → AreDefined s ds → body_chain ds (next_number s s.bodies) ≡ []
none_defined s [] h = refl
none_defined s (d ∷ ds) h =
    let here = apart_new s d.body h.0 in
    let rest = none_defined s ds h.1 in
    λ j. cond (here j) (record { ident = d.ident; binder = d.binder } ∷ rest j) (rest j)

-- ---- a body is entered

is_entered_more : (s : ScopedState) (b : Number) → IsEntered s b → IsEntered (entered s) b
is_entered_more s b h = λ unit. omega (arith, h unit, leq_counted s.form s.bodies b.form)

are_entered_more : (s : ScopedState) (fs : Frames) → AreEntered s fs → AreEntered (entered s) fs
are_entered_more s [] h = h
are_entered_more s (Bind x v ∷ fs) h = are_entered_more s fs h
are_entered_more s (Enter b u ∷ fs) h = (is_entered_more s b h.0, are_entered_more s fs h.1)

are_defined_more : (s : ScopedState) (ds : BodyDefinitions) → AreDefined s ds → AreDefined (entered s) ds
are_defined_more s [] h = h
are_defined_more s (d ∷ ds) h = (is_entered_more s d.body h.0, are_defined_more s ds h.1)

now_entered : (s : ScopedState) → IsEntered (entered s) (next_number s s.bodies)
now_entered s = λ unit. omega (arith, counted_here s.form suc s.bodies)

entered_env : (names : Names) (env : Environment) (ls : List Frames) (s : ScopedState) → EnvStands names env ls s → EnvStands names env ls (entered s)
entered_env names env ls s e = record {
  count = e.count;
  scopes = e.scopes;
  given = e.given;
  noted = e.noted;
  unnoted = e.unnoted;
  inside = e.inside;
  entered = λ n fs at. are_entered_more s fs (e.entered n fs at);
  defined = are_defined_more s s.definitions e.defined;
  named = e.named;
  given_named = e.given_named;
}

entered_stands : (work : Work) (u : UnitScope) (ls : List Frames) (s : ScopedState) → Stands work u ls s → Stands work u ls (entered s)
entered_stands work u ls s e =
    let m = e.macros in
    let f = e.form in
    record {
      unit = e.unit;
      program = e.program;
      env = entered_env work.symbols u.env ls s e.env;
      macros = record { there = m.there; idents = m.idents; symbols = m.symbols; free = m.free; known_idents = m.known_idents; known_symbols = m.known_symbols };
      root = e.root;
      own = e.own;
      begun = record { frames = e.begun.frames; bodies = e.begun.bodies; macros = e.begun.macros };
      form = record {
        number = f.number;
        locals = f.locals;
        uses = f.uses;
        nodes = f.nodes;
        few_uses = f.few_uses;
        few_nodes = f.few_nodes;
        few_locals = f.few_locals;
        definitions = f.definitions;
        keywords = f.keywords;
        met = f.met;
      };
      defined = e.defined;
      known = e.known;
      count = e.count;
    }

pub body_stands : (work : Work) (u : UnitScope) (ls : List Frames) (s : ScopedState) (scope : ℕ) (fs : Frames) → IsSound u.env → slice_get ls scope ≡ Some fs → Stands work u ls s →
    Stands work (record u { env = with_child u.env scope }) (ls ++ entered_frames s fs ∷ []) (entered s)
body_stands work u ls s scope fs sound at e =
    let new = entered_stands work u ls s e in
    let same = ap (λ c. c ++ chain_of s.definitions fs) (none_defined s s.definitions e.env.defined) in
    scope_more work u (with_child u.env scope) ls (entered_frames s fs) (entered s) refl ((u.root, ap (map.get u.env.roots) (sym e.unit) ∙ e.own), e.begun.frames scope fs at)
    (child_env_stands work.symbols u.env sound ls (entered s) new.env scope fs (entered_frames s fs) at same (now_entered s, are_entered_more s fs (e.env.entered scope fs at)))
    new

unfoldable pub body_opens : (work : Work) (u : UnitScope) (ls : List Frames) (s : ScopedState) (scope : ℕ) (fs : Frames) → slice_get ls scope ≡ Some fs → Stands work u ls s →
    IsOpenBody (ls ++ entered_frames s fs ∷ []) (length u.env.scopes) (next_number s s.bodies) fs
body_opens work u ls s scope fs at e = record {
  uses = s.uses;
  older = ls;
  layout = refl;
  newest = sym e.env.count;
  others = λ n gs there. outside_new s gs (e.env.entered n gs there);
  around = outside_new s fs (e.env.entered scope fs at);
}

-- ---- a definition in an open body

abbrev bound_as : BodyDefinition → Bound
bound_as d = record { ident = d.ident; binder = d.binder }

-- frames outside of the body have the binders that they had
chain_outside : (d : BodyDefinition) (ds : BodyDefinitions) (gs : Frames) → is_inside d.body gs ≡ false → chain_of (d ∷ ds) gs ≡ chain_of ds gs
chain_outside d ds [] h = refl
chain_outside d ds (Bind x v ∷ gs) h = ap (λ c. record { ident = x; binder = v } ∷ c) (chain_outside d ds gs h)
chain_outside d ds (Enter b u ∷ gs) h =
    let p = none_of (same_number d.body b) (is_inside d.body gs) h in
    let rest = chain_outside d ds gs p.1 in
    let here = p.0 in
    λ j. cond (here j) (bound_as d ∷ body_chain ds b) (body_chain ds b) ++ rest j

-- its own have one more
chain_inside : (d : BodyDefinition) (ds : BodyDefinitions) (u : Clock) (fs : Frames) → is_inside d.body fs ≡ false → chain_of (d ∷ ds) (Enter d.body u ∷ fs) ≡ bound_as d ∷ chain_of ds (Enter d.body u ∷ fs)
chain_inside d ds u fs h =
    let rest = chain_outside d ds fs h in
    λ j. cond (number_itself d.body j) (bound_as d ∷ body_chain ds d.body) (body_chain ds d.body) ++ rest j

module _ (names : Names) (apart : AreToldApart names.idents) (s : ScopedState) (older : List Frames) (at : ℕ) (newest : at ≡ length older) (d : BodyDefinition) (w : Clock) (fs : Frames)
    (others : (n : ℕ) (gs : Frames) → slice_get older n ≡ Some gs → is_inside d.body gs ≡ false) (outside : is_inside d.body fs ≡ false) where
  abbrev frames : Frames
  frames = Enter d.body w ∷ fs

  abbrev layout : List Frames
  layout = older ++ frames ∷ []

  abbrev after : ScopedState
  after = record s { definitions = d ∷ s.definitions }

  module _ (env : Environment) (sound : IsSound env) (e : EnvStands names env layout s) (p ident : ℕ) (inside : parent_of env at ≡ Some p) (is : IsIdent names ident d.ident) where
    abbrev new : Environment
    new = with_bound env at ident (Local d.binder.count)

    below : (n : ℕ) → n < length older → n < length env.scopes
    below n lt = omega (arith, lt, e.count, length-append older (frames ∷ []))

    beside : (n : ℕ) → n < length older → is_around env at n ≡ false
    beside n lt = older_apart env at sound n (omega (arith, lt, newest)) (below n lt)

    here : StandsFor names new (Some at) (chain_in after frames)
    here =
        subst (λ c. StandsFor names new (Some at) c) (sym (chain_inside d s.definitions w fs outside))
        (bound_stands names env at ident p d.ident d.binder (chain_in s frames) sound apart is inside (subst (λ (n : ℕ). StandsFor names env (Some n) (chain_in s frames)) (sym newest) (e.scopes (length older) frames (get_next older [] frames))))

    -- uses that were noted with the body's scope have the binder too
    noted_so : (k : Number) (n : ℕ) → slice_get layout n ≡ Some (around s.places k) → cond (n == at) (bound_as d ∷ uses_in s k) (uses_in s k) ≡ uses_in after k
    noted_so k n there = elim (push_cases older frames n (around s.places k) there) [
      | inl old ↦ let lt = slice_get_within older n (around s.places k) old in
          ap (λ b. cond b (bound_as d ∷ uses_in s k) (uses_in s k)) (ne_eqb n at (λ same. omega (arith, lt, same, newest))) ∙ sym (chain_outside d s.definitions (around s.places k) (others n (around s.places k) old))
      | inr last ↦ ap (λ b. cond b (bound_as d ∷ uses_in s k) (uses_in s k)) (eq-eqb n at (last.0 ∙ sym newest))
          ∙ (ap (λ gs. bound_as d ∷ chain_of s.definitions gs) last.1 ∙ (sym (chain_inside d s.definitions w fs outside) ∙ sym (ap (chain_of (d ∷ s.definitions)) last.1)))
    ]

    used_by : (k : Number) (o : Option ℕ) → map.get env.uses k ≡ o → cond (is_at o at) (bound_as d ∷ uses_in s k) (uses_in s k) ≡ uses_in after k
    used_by k None none = let h = e.unnoted k none in ap (chain_of s.definitions) h ∙ sym (ap (chain_of (d ∷ s.definitions)) h)
    used_by k (Some n) noted = noted_so k n (e.noted k n noted)

    used_so : with_binder env at (bound_as d) (uses_in s) ≡ uses_in after
    used_so = λ j k. used_by k (map.get env.uses k) refl j

    pub defined_env : EnvStands names new layout after
    defined_env = record {
      count = e.count ∙ sym (length-changed_at (bound_in ident (Local d.binder.count)) env.scopes at);
      scopes = λ n hs there. elim (push_cases older frames n hs there) [
        | inl old ↦ let lt = slice_get_within older n hs old in
            subst (λ c. StandsFor names new (Some n) c) (sym (chain_outside d s.definitions hs (others n hs old))) (apart_stands names env at ident (Local d.binder.count) sound (chain_in s hs) n (below n lt) (beside n lt) (e.scopes n hs there))
        | inr last ↦ subst (λ (k : ℕ). StandsFor names new (Some k) (chain_in after hs)) (newest ∙ sym last.0) (subst (λ (x : Frames). StandsFor names new (Some at) (chain_in after x)) (sym last.1) here)
      ];
      given = subst (λ (us : Uses). EnvFor names new (given_in s) us) used_so
          (binder_env names env at ident p d.ident d.binder sound apart is inside (given_in s) (uses_in s)
          (λ k n noted. elim (push_cases older frames n (around s.places k) (e.noted k n noted)) [
            | inl old ↦ inr (beside n (slice_get_within older n (around s.places k) old))
            | inr last ↦ inl (last.0 ∙ sym newest)
          ]) e.given);
      noted = e.noted;
      unnoted = e.unnoted;
      inside = λ n f hs there. let q = e.inside n f hs there in (q.0, parent_bound env at ident (Local d.binder.count) n q.0 q.1);
      entered = e.entered;
      defined = ((e.entered (length older) frames (get_next older [] frames)).0, e.defined);
      named = λ n hs there. elim (push_cases older frames n hs there) [
        | inl old ↦ subst (AreNamed names) (sym (chain_outside d s.definitions hs (others n hs old))) (e.named n hs there)
        | inr last ↦ subst (λ (x : Frames). AreNamed names (chain_in after x)) (sym last.1)
            (subst (AreNamed names) (sym (chain_inside d s.definitions w fs outside)) ((ident, is), e.named (length older) frames (get_next older [] frames)))
      ];
      given_named = e.given_named;
    }

-- ---- the whole

scopes_after : (work : Work) (u : UnitScope) (env : Environment) (ls : List Frames) (s : ScopedState) (ds : BodyDefinitions) → env.roots ≡ u.env.roots → BodiesBegun u.env.roots ds → EnvStands work.symbols env ls (record s { definitions = ds }) → Stands work u ls s →
    Stands work (record u { env = env }) ls (record s { definitions = ds })
scopes_after work u env ls s ds roots begun now e =
    let m = e.macros in
    let f = e.form in
    record {
      unit = e.unit;
      program = e.program;
      env = now;
      macros = record { there = m.there; idents = m.idents; symbols = m.symbols; free = m.free; known_idents = m.known_idents; known_symbols = m.known_symbols };
      root = e.root;
      own = ap (λ r. map.get r u.unit) roots ∙ e.own;
      begun = subst (λ r. HasBegun r ls (record s { definitions = ds })) (sym roots) (record { frames = e.begun.frames; bodies = begun; macros = e.begun.macros });
      form = record {
        number = f.number;
        locals = f.locals;
        uses = f.uses;
        nodes = f.nodes;
        few_uses = f.few_uses;
        few_nodes = f.few_nodes;
        few_locals = f.few_locals;
        definitions = f.definitions;
        keywords = f.keywords;
        met = f.met;
      };
      defined = e.defined;
      known = e.known;
      count = e.count;
    }

pub definition_stands : (work : Work) (u : UnitScope) (ls : List Frames) (s : ScopedState) (scope : ℕ) (b : Number) (fs gs : Frames) (ident : ℕ) (n : Named Identifier) →
    AreToldApart work.symbols.idents → IsSound u.env → IsOpenBody ls scope b fs → IsIdent work.symbols ident n.name → u.form.budget.locals + 1 ≤ most_locals u.form.budget.nodes → Stands work u ls s →
    Stands work (record (with_locals u (u.form.budget.locals + 1)) { env = with_bound u.env scope ident (Local u.form.budget.locals) }) ls (definition_added (Some b) n None gs s)
definition_stands work u ls s scope b fs gs ident n apart sound body is room e =
    let d : BodyDefinition = record { body = b; ident = n.name; binder = next_number s s.locals } in
    let frames = Enter b body.uses ∷ fs in
    let there = body.older ++ frames ∷ [] in
    let before : Stands work u there s = subst (λ (l : List Frames). Stands work u l s) body.layout e in
    let p = before.env.inside (length body.older) (Enter b body.uses) fs (get_next body.older [] frames) in
    let t = record s { definitions = d ∷ s.definitions } in
    let env : EnvStands work.symbols (with_bound u.env scope ident (Local (s.locals s.form))) there t =
    defined_env work.symbols apart s body.older scope body.newest d body.uses fs body.others body.around u.env sound before.env p.0 ident (subst (λ (k : ℕ). parent_of u.env k ≡ Some p.0) (sym body.newest) p.1) is in
    let now = with_bound u.env scope ident (Local u.form.budget.locals) in
    let first : Stands work (record u { env = now }) there t =
    scopes_after work u now there s (d ∷ s.definitions) refl ((before.begun.frames (length body.older) frames (get_next body.older [] frames)).0, before.begun.bodies) (subst (λ (k : ℕ). EnvStands work.symbols (with_bound u.env scope ident (Local k)) there t) (sym e.form.locals) env) before in
    let state : taken 1 t ≡ definition_added (Some b) n None gs s = sym (taken_on t 0) ∙ taken_none (record t { locals = at_form s.form suc s.locals }) in
    subst (λ (l : List Frames). Stands work (record (with_locals u (u.form.budget.locals + 1)) { env = now }) l (definition_added (Some b) n None gs s)) (sym body.layout)
    (subst (λ (x : ScopedState). Stands work (record (with_locals u (u.form.budget.locals + 1)) { env = now }) there x) state (locals_stand work (record u { env = now }) there t 1 room first))
