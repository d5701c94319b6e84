-- The law of expressions with bodies nested in them: expansion by scopes gives what substitution gives, whatever the turns.
use Rattle.std.proofs.Common.{◌≡◌, ℕ, zero, suc, inr, List, [], ◌∷◌, Bool, true, false, cond, refl, sym, ap, ◌∙◌, subst}
use Rattle.scheme_model.specs.Identifiers.{Number, Name, Inner}
use Rattle.scheme_model.specs.Ident.{Ident, Written, Inserted}
use Rattle.scheme_model.specs.Trees.{Trees, map_tree, map_trees}
use Rattle.scheme_model.specs.ExpansionFaults.{OutOfTurns}
use Rattle.scheme_model.specs.Meaning.{Meaning, Local, Global, Standard, Free}
use Rattle.scheme_model.specs.Requirements.{Known}
use Rattle.scheme_model.specs.Cores.{Core, Body}
use Rattle.scheme_model.specs.Steps.{Step, ◌>>=◌, done}
use Rattle.scheme_model.specs.Order.{Here, Left, Pass, here_at, forms_at, meet_all, run}
use Rattle.scheme_model.specs.Expression.{expression, item_part, parts, left_of, body_in, body_core, expand}
use Rattle.scheme_model.specs.Substitution.{State, is_own, model}
use Rattle.scheme_model.specs.ScopedExpansion.{Frames, BodyDefinition, BodyDefinitions, FramedIdent, ScopedMacro, ScopedState, around, next_number, scoped}
use Rattle.scheme_model.proofs.OpenBodies.{Sits}
use Rattle.model_laws.proofs.FrameEras.{Era, Before, Below, below_counted}
use Rattle.model_laws.proofs.IdentKinds.{item_kind, rules_kind}
use Rattle.scheme_model.proofs.Clocks.{leq_itself, apart}
use Rattle.scheme_model.proofs.ScopeLaws.{map_map_all}
use Rattle.model_laws.proofs.FrameAsks.{AllOf, all_of_more}
use Rattle.model_laws.proofs.FrameStates.{era, names, view, Fine, FineState, grows_then, Stands, MacroFine, next_new}
use Rattle.model_laws.proofs.FrameGrowth.{entered_state, enter_names, enter_fine, enter_grows}
use Rattle.model_laws.proofs.FrameLeaves.{TreesAll, trees_more, trees_same, held_more, held_made, made_held}
use Rattle.model_laws.proofs.FrameAgrees.{break, agrees_at, agrees_more, Keeps, keeps_bind, Same, same_done, same_fails}
use Rattle.model_laws.proofs.FrameHeads.{here_seen, node_law}
use Rattle.model_laws.proofs.FrameHeld.{ItemHeld, left_map, forms_seen, forms_held}
use Rattle.model_laws.proofs.FrameUses.{placed, meet_all_seen, met_later}
use Rattle.model_laws.proofs.FramePlaces.{Came, came, broke, Together}
use Rattle.model_laws.proofs.FrameForms.{forms_law}
use Rattle.model_laws.proofs.FrameOpen.{b, home, mine_of, MacroSits, Opened, Inside, Leaf, PlaceIn, RuleLeaf, entered_other, stands_in}
use Rattle.model_laws.proofs.FrameBodyFacts.{body_facts, Any, Dropped}
use Rattle.model_laws.proofs.FrameItems.{ItemMade, parts_law}
use Rattle.model_laws.proofs.FrameExpressions.{Scoped, Modelled, WholeLaw, BodyLaw}
use Rattle.model_laws.proofs.FrameCoreForms.{expression_law}

module _ (worked : ℕ → Bool) (known : Known) (s0 : ScopedState) (f0 : Fine (era worked s0) s0.locals s0.uses s0.bodies s0.table s0.entry s0.macros s0.places s0.definitions) (c : Frames) (st0 : Stands (era worked s0) s0 c) where
  abbrev entry : ScopedState
  entry = entered_state (era worked s0) s0

  abbrev frames : Frames
  frames = home worked known s0 f0 c st0

  -- nothing is defined in the body yet
  none_mine : (ds : BodyDefinitions) → AllOf (λ (d : BodyDefinition). Before (era worked s0) s0.bodies d.body) ds → mine_of worked known s0 f0 c st0 ds ≡ []
  none_mine [] h = refl
  none_mine (d ∷ ds) h =
      ap (λ z. cond z (d.binder ∷ mine_of worked known s0 f0 c st0 ds) (mine_of worked known s0 f0 c st0 ds)) (apart s0.unit s0.bodies d.body (b worked known s0 f0 c st0) h.0.0 (next_new (era worked s0) s0 (refl, f0) s0.bodies)) ∙ none_mine ds h.1

  none_own : (m : Meaning) → is_own [] m ≡ false
  none_own (Local v) = refl
  none_own (Global u i) = refl
  none_own (Standard s) = refl
  none_own (Free s) = refl

  -- macros from outside
  sits_outside : (ms : List Number) → ms ≡ [] → (ks : List ScopedMacro) → AllOf (MacroFine (era worked s0) s0.locals s0.uses s0.bodies) ks → AllOf (MacroSits worked known s0 f0 c st0 s0.uses s0.places ms) ks
  sits_outside ms e [] h = tt
  sits_outside ms e (k ∷ ks) h = (
    record { rules = held_more rules_kind (Below (era worked s0) s0.uses) _ (λ i q. inr (h.0.entered, q, h.0.binders)) k.rules (made_held rules_kind (era worked s0) s0.uses k.rules h.0.rules); owned = inr (ap (λ z. is_own z k.meaning) e ∙ none_own k.meaning, h.0.entered) },
    sits_outside ms e ks h.1,
  )

  opened : Opened worked known s0 f0 c st0 entry
  opened = record {
    fine = enter_fine (era worked s0) s0 (refl, f0);
    grows = enter_grows (era worked s0) s0;
    entered = leq_itself entry.bodies;
    macros = sits_outside (mine_of worked known s0 f0 c st0 s0.definitions) (none_mine s0.definitions f0.bodies) s0.macros f0.macros;
    table = λ v i h. (f0.outside v i h).0;
  }

  -- what was made before can stand in it
  old_leaf : (i : Ident) → Below (era worked s0) s0.uses i → Leaf worked known s0 f0 c st0 entry i
  old_leaf i l = (l, go i l)
    where
      go : (j : Ident) → Below (era worked s0) s0.uses j → Sits (b worked known s0 f0 c st0) s0.uses c s0.places j
      go (Written v s) h = tt
      go (Inserted j k) h = inr (entered_other worked known s0 f0 c st0 (around s0.places k) (f0.entered k), below_counted (era worked s0) s0.uses j h.1)

  module _ (F : Scoped (era worked s0) known) (G : Modelled (era worked s0) known) (law : WholeLaw (era worked s0) known F G) (body_law : BodyLaw (era worked s0) known F G) (turns below : ℕ) (here : Here) (i : Bool) (n : List Number) (ts : Trees Ident) (old : TreesAll (Below (era worked s0) s0.uses) ts) where
    -- what was set aside is expanded
    abbrev ending : Left Ident → Step ScopedState Core
    ending l t = parts (item_part F (scoped known) below frames) l.items t >>= λ ps. done (Body ps)

    abbrev ending_so : Left Name → Step State Core
    ending_so l t = parts (item_part G (model known) below tt) l.items t >>= λ ps. done (Body ps)

    -- once the macro uses of the forms are met
    abbrev coming : Left Ident → Step ScopedState Core
    coming l t = ending l (meet_all (scoped known) frames l.uses t)

    abbrev coming_so : Left Name → Step State Core
    coming_so l t = ending_so l (meet_all (model known) tt l.uses t)

    -- the body's forms were gone through; what they set aside is expanded
    after_forms : (q : Pass Ident FramedIdent × ScopedState) (m : Pass Name Name × State) → Together (era worked s0) known frames (Inside worked known s0 f0 c st0) (Any worked known s0 f0 c st0) (Leaf worked known s0 f0 c st0) (PlaceIn worked known s0 f0 c st0) (RuleLeaf worked known s0 f0 c st0) (Dropped worked known s0 f0 c st0) q m
        → Same (era worked s0) s0 (left_of q >>= λ l t. parts (item_part F (scoped known) below frames) l.items (meet_all (scoped known) frames l.uses t) >>= λ ps. done (Body ps)) (left_of m >>= λ l t. parts (item_part G (model known) below tt) l.items (meet_all (model known) tt l.uses t) >>= λ ps. done (Body ps))
    after_forms q m h = go h.came_to
      where
        go : Came (era worked s0) known frames (Inside worked known s0 f0 c st0) (Any worked known s0 f0 c st0) (Leaf worked known s0 f0 c st0) (PlaceIn worked known s0 f0 c st0) (RuleLeaf worked known s0 f0 c st0) (Dropped worked known s0 f0 c st0) q.1 q.0 m.0
            → Same (era worked s0) s0 (left_of q >>= λ l t. parts (item_part F (scoped known) below frames) l.items (meet_all (scoped known) frames l.uses t) >>= λ ps. done (Body ps)) (left_of m >>= λ l t. parts (item_part G (model known) below tt) l.items (meet_all (model known) tt l.uses t) >>= λ ps. done (Body ps))
        go (came l e d hx hn z) =
            let o = h.inside.0 in let v = h.state in
            agrees_at (ap (λ r. (r, q.1) >>= coming) e) ((λ j. (d j, v j) >>= coming_so) ∙ ap (λ y. ending_so (left_map (names q.1 frames) l) y) (meet_all_seen (era worked s0) known h.in_body h.mine frames l.uses q.1 o.fine))
            (met_later known frames (λ t. Same (era worked s0) s0 (ending l t) (ending_so (left_map (names q.1 frames) l) (view h.in_body h.mine t))) l.uses q.1 (λ y.
            agrees_more {K = Keeps (era worked s0) q.1} {L = Keeps (era worked s0) s0} (λ t i1 n1 k. (k.0, grows_then (era worked s0) s0 q.1 t o.grows k.1)) (λ t a b r. r)
            (keeps_bind (era worked s0) q.1 _ (parts_law (era worked s0) known F G law body_law below frames l.items (record q.1 { met = y }) o.fine h.in_body h.mine (stands_in worked known s0 f0 c st0 q.1 o)
            (all_of_more (ItemHeld (Leaf worked known s0 f0 c st0 q.1)) (ItemMade (era worked s0) known F G law body_law below frames q.1.uses) (λ x r. (held_made item_kind (era worked s0) q.1.uses x (held_more item_kind (Leaf worked known s0 f0 c st0 q.1) (Below (era worked s0) q.1.uses) (λ a b. b.0) x r.0), r.1)) l.items hx.1))
            (λ a b t i1 n1 k e2. same_done (era worked s0) t i1 n1 (Body a) (Body b) k.0 (ap Body e2)))))
        go (broke x e d hn) =
            let v = h.state in
            break x q.1 h.in_body h.mine (ap (λ r. (r, q.1) >>= coming) e) (λ j. (d j, v j) >>= coming_so) (h.inside.0.fine, h.inside.0.grows)

    trees_entered : map_trees (Inner (next_number s0 s0.bodies)) (map_trees (names s0 c) ts) ≡ map_trees (names entry frames) ts
    trees_entered = map_map_all (Inner (next_number s0 s0.bodies)) (names s0 c) ts ∙ trees_same (Below (era worked s0) s0.uses) (λ j. Inner (next_number s0 s0.bodies) (names s0 c j)) (names entry frames) (enter_names (era worked s0) s0 (refl, f0) c) ts old

    pub in_body_law : Same (era worked s0) s0 (body_in (scoped known) turns (item_part F (scoped known) below) here ((scoped known).enter c ts s0)) (body_in (model known) turns (item_part G (model known) below) here ((model known).enter tt (map_trees (names s0 c) ts) (view i n s0)))
    in_body_law =
        let us = trees_entered in let ms = sym (none_mine s0.definitions f0.bodies) in
        agrees_at refl
        ((λ j. left_of (run (model known) turns tt (record { todo = forms_at here (us j); aside = []; uses = []; notes = [] }) (view true (ms j) entry)) >>= coming_so)
        ∙ ap (λ xs. left_of (run (model known) turns tt (record { todo = xs; aside = []; uses = []; notes = [] }) (view true (mine_of worked known s0 f0 c st0 entry.definitions) entry)) >>= coming_so) (forms_seen (names entry frames) (placed entry) here ts))
        (after_forms _ _ (forms_law (era worked s0) known frames (Inside worked known s0 f0 c st0) (Any worked known s0 f0 c st0) (Leaf worked known s0 f0 c st0) (PlaceIn worked known s0 f0 c st0) (RuleLeaf worked known s0 f0 c st0) (Dropped worked known s0 f0 c st0) (body_facts worked known s0 f0 c st0) turns
        (record { todo = forms_at here ts; aside = []; uses = []; notes = [] }) entry true (mine_of worked known s0 f0 c st0 entry.definitions) (opened, refl, refl)
        (forms_held (Leaf worked known s0 f0 c st0 entry) here ts (trees_more (Below (era worked s0) s0.uses) (Leaf worked known s0 f0 c st0 entry) old_leaf ts old), tt, tt, tt)))

-- ---- any task

module _ (w : Era) (known : Known) where
  -- a body of any state of the unit
  body_at : (F : Scoped w known) (G : Modelled w known) → WholeLaw w known F G → BodyLaw w known F G → (turns : ℕ) (depth : ℕ) (here : Here) (fs : Frames) (ts : Trees Ident) (s : ScopedState) → s.unit ≡ w.unit → FineState w s → (i : Bool) (n : List Number) → Stands w s fs → TreesAll (Below w s.uses) ts
      → Same w s (body_core F (scoped known) turns depth here fs ts s) (body_core G (model known) turns depth here tt (map_trees (names s fs) ts) (view i n s))
  body_at F G law body_law turns depth here fs ts s e =
      subst (λ (v : Era). WholeLaw v known F G → BodyLaw v known F G → FineState v s → (i : Bool) (n : List Number) → Stands v s fs → TreesAll (Below v s.uses) ts → Same v s (body_core F (scoped known) turns depth here fs ts s) (body_core G (model known) turns depth here tt (map_trees (names s fs) ts) (view i n s))) (λ j. record { unit = e j; worked = w.worked })
      (λ l m f i n h old. node_law (era w.worked s) known here 1 depth s f i n _ _ (λ below x. in_body_law w.worked known (record s { nodes = x }) f.1 fs h F G l m turns below here i n ts old)) law body_law

  -- Both sides expand any task alike, within the same turns.
  pub expand_law : (turns : ℕ) → WholeLaw w known (expand (scoped known) turns) (expand (model known) turns) × BodyLaw w known (expand (scoped known) turns) (expand (model known) turns)
  expand_law zero = (λ depth here fs t s f i n h l. same_fails w s i n here OutOfTurns f, λ depth here fs ts s f i n h l. same_fails w s i n here OutOfTurns f)
  expand_law (suc turns) =
      let ih = expand_law turns in (
        λ depth here fs t s f i n h l. agrees_at refl (ap (λ hr. expression (expand (model known) turns) (model known) depth hr tt (map_tree (names s fs) t) (view i n s)) (here_seen w s fs t here))
            (expression_law w known (expand (scoped known) turns) (expand (model known) turns) ih.0 ih.1 depth (here_at (λ j. j) t here) fs t s f i n h l),
        λ depth here fs ts s f i n h l. body_at (expand (scoped known) turns) (expand (model known) turns) ih.0 ih.1 turns depth here fs ts s f.0 f i n h l,
      )
