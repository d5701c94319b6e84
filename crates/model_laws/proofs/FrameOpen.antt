-- A body that is open on both sides: what holds of its states, and of what stands in it.
use Rattle.std.proofs.Common.{◌≡◌, ℕ, suc, ◌⊎◌, inl, inr, List, [], ◌∷◌, Bool, true, false, cond, Some, refl, sym, ◌∙◌, subst}
use Rattle.std.proofs.lemmas.Bool.{false_from_ne_true}
use Rattle.scheme_model.specs.Identifiers.{Number, same_number}
use Rattle.scheme_model.specs.Ident.{Ident, Written, Inserted}
use Rattle.scheme_model.specs.Meaning.{Meaning, same_meaning}
use Rattle.scheme_model.specs.Requirements.{Known}
use Rattle.scheme_model.specs.Order.{Transformer, is_some}
use Rattle.scheme_model.specs.Substitution.{Table, Clock, at_form, defined_in, is_own}
use Rattle.scheme_model.specs.ScopedExpansion.{Enter, Frames, BodyDefinitions, UsePlace, FramedIdent, ScopedMacro, ScopedState, around, next_number, macro_at}
use Rattle.scheme_model.proofs.OpenBodies.{Before as Counted, Leq, NotYet, Entered, PlacesIn, DefinitionsBelow, FramesOk, Other, Sits}
use Rattle.model_laws.proofs.FrameEras.{Era, Before, Below, before_more, below_more, below_counted, frames_entered}
use Rattle.scheme_model.proofs.IdentLaws.{number_told}
use Rattle.model_laws.proofs.IdentKinds.{rules_kind}
use Rattle.scheme_model.proofs.Clocks.{leq_itself}
use Rattle.model_laws.proofs.FrameTimes.{entered_more, definitions_same, frames_later}
use Rattle.model_laws.proofs.FrameAsks.{AllOf, all_of_more, BindersCounted}
use Rattle.model_laws.proofs.FrameStates.{era, Fine, FineState, Grows, grows_then, Stands, binders_more, names_far, next_new, next_old}
use Rattle.model_laws.proofs.FrameGrowth.{used_state, use_grows, use_fine, around_new}
use Rattle.model_laws.proofs.FrameLeaves.{Held, held_more}
use Rattle.model_laws.proofs.FrameHeads.{IfMacro, TransformerFine}
use Rattle.model_laws.proofs.FrameUses.{placed}

-- worked are the units that were worked on before
module _ (worked : ℕ → Bool) (known : Known) (s0 : ScopedState) (f0 : Fine (era worked s0) s0.locals s0.uses s0.bodies s0.table s0.entry s0.macros s0.places s0.definitions) (c : Frames) (st0 : Stands (era worked s0) s0 c) where
  -- the unit, the body's number, and its frames
  abbrev pub w : Era
  w = era worked s0

  abbrev pub b : Number
  b = next_number s0 s0.bodies

  abbrev pub home : Frames
  home = Enter (next_number s0 s0.bodies) s0.uses ∷ c

  fine0 : FineState (era worked s0) s0
  fine0 = (refl, f0)

  -- the numbers that the body has defined
  abbrev pub mine_of : BodyDefinitions → List Number
  mine_of [] = []
  mine_of (d ∷ ds) = cond (same_number d.body b) (d.binder ∷ mine_of ds) (mine_of ds)

  -- what stands in the body, or was noted there
  abbrev pub Sitting : Clock → List UsePlace → Ident → Type 0
  Sitting u ps i = Below w u i × Sits b s0.uses c ps i

  abbrev pub Placed : Clock → List UsePlace → FramedIdent → Type 0
  Placed u ps l = ((l.frames ≡ home) × Sitting u ps l.ident) ⊎ (Entered (Before w s0.bodies) l.frames × Below w s0.uses l.ident × BindersCounted w s0.locals l.frames)

  -- a macro: the body's own, or one from outside
  pub record MacroSits (u : Clock) (ps : List UsePlace) (mine : List Number) (k : ScopedMacro) : Type 0 where
    pub rules : Held rules_kind (λ i. Placed u ps (record { frames = k.frames; ident = i })) k.rules
    pub owned : ((is_own mine k.meaning ≡ true) × (k.frames ≡ home)) ⊎ ((is_own mine k.meaning ≡ false) × Entered (Before w s0.bodies) k.frames)

  abbrev pub TableOld : Table → Type 0
  TableOld table = (v : ℕ) (i : Ident) → is_some (defined_in table v i) ≡ true → Below w s0.uses i

  pub record Opened (t : ScopedState) : Type 0 where
    pub fine : FineState (era worked s0) t
    pub grows : Grows (era worked s0) s0 t
    pub entered : Leq (at_form s0.form suc s0.bodies) t.bodies
    pub macros : AllOf (MacroSits t.uses t.places (mine_of t.definitions)) t.macros
    pub table : TableOld t.table

  abbrev pub Inside : ScopedState → Bool → List Number → Type 0
  Inside t in_body mine = Opened t × (in_body ≡ true) × (mine ≡ mine_of t.definitions)

  abbrev pub Leaf : ScopedState → Ident → Type 0
  Leaf t i = Sitting t.uses t.places i

  abbrev pub PlaceIn : ScopedState → FramedIdent → Type 0
  PlaceIn t l = Placed t.uses t.places l

  abbrev pub RuleLeaf : ScopedState → Transformer Frames Ident → Ident → Type 0
  RuleLeaf t m i = Placed t.uses t.places (record { frames = m.env; ident = i })

  -- ---- the body

  pub other_of : (a : Number) → Counted s0.unit s0.bodies a → Other b a
  other_of a h = false_from_ne_true (same_number b a) (λ e. let p : Counted s0.unit s0.bodies b = subst (Counted s0.unit s0.bodies) (sym (number_told b a e)) h in let q : true ≡ false = sym p ∙ next_new (era worked s0) s0 fine0 s0.bodies in absurd cc)

  pub entered_other : (fs : Frames) → Entered (Before (era worked s0) s0.bodies) fs → Entered (Other b) fs
  entered_other fs e = entered_more (Before (era worked s0) s0.bodies) (Other b) (λ a h. other_of a h.0) fs e

  pub young : NotYet s0.unit s0.bodies b
  young = next_new (era worked s0) s0 fine0 s0.bodies

  module _ (t : ScopedState) (o : Opened t) where
    pub places_in : PlacesIn s0.unit s0.uses (Other b) t.places
    places_in k h = subst (Entered (Other b)) (o.grows.places k h) (entered_other (around s0.places k) (f0.entered k))

    pub definitions_in : DefinitionsBelow s0.unit t.definitions s0.uses s0.bodies
    definitions_in = definitions_same s0.unit s0.definitions t.definitions s0.uses s0.bodies o.grows.definitions f0.definitions

    pub frames_in : FramesOk s0.unit t.definitions s0.uses s0.bodies c
    frames_in = frames_later s0.unit s0.definitions t.definitions s0.uses s0.bodies s0.uses s0.bodies o.grows.definitions (leq_itself s0.uses) (leq_itself s0.bodies) c st0.0

    pub entered_body : Before (era worked s0) t.bodies b
    entered_body = before_more (era worked s0) (at_form s0.form suc s0.bodies) t.bodies o.entered b (next_old (era worked s0) s0 fine0 s0.bodies)

    pub stands_in : Stands (era worked s0) t home
    stands_in = ((s0.bodies, refl, entered_body.0, o.grows.uses, o.grows.bodies, young, definitions_in, frames_in), binders_more (era worked s0) s0.locals t.locals o.grows.locals c st0.1)

    pub placed_below : (l : FramedIdent) → PlaceIn t l → Below (era worked s0) t.uses l.ident
    placed_below l (inl q) = q.1.0
    placed_below l (inr q) = below_more (era worked s0) s0.uses t.uses o.grows.uses l.ident q.1

    placed_entered : (l : FramedIdent) → PlaceIn t l → Entered (Before (era worked s0) t.bodies) l.frames
    placed_entered l (inl q) = subst (Entered (Before (era worked s0) t.bodies)) (sym q.0) (frames_entered (era worked s0) t.definitions t.uses t.bodies home stands_in.0)
    placed_entered l (inr q) = entered_more (Before (era worked s0) s0.bodies) (Before (era worked s0) t.bodies) (before_more (era worked s0) s0.bodies t.bodies o.grows.bodies) l.frames q.0

    -- in a state that changes no older image
    sits_later : (v : ScopedState) → Grows (era worked s0) t v → (i : Ident) → Below (era worked s0) t.uses i → Sits b s0.uses c t.places i → Sits b s0.uses c v.places i
    sits_later v g (Written z s) l h = tt
    sits_later v g (Inserted i k) l (inl h) = inl (sym (g.places k l.0.0) ∙ h.0, sits_later v g i l.1 h.1)
    sits_later v g (Inserted i k) l (inr h) = inr (subst (Entered (Other b)) (g.places k l.0.0) h.0, h.1)

    pub leaf_later : (v : ScopedState) → Grows (era worked s0) t v → (i : Ident) → Leaf t i → Leaf v i
    leaf_later v g i h = (below_more (era worked s0) t.uses v.uses g.uses i h.0, sits_later v g i h.0 h.1)

    pub place_later : (v : ScopedState) → Grows (era worked s0) t v → (l : FramedIdent) → PlaceIn t l → PlaceIn v l
    place_later v g l (inl q) = inl (q.0, leaf_later v g l.ident q.1)
    place_later v g l (inr q) = inr q

    pub placed_later : (v : ScopedState) → Grows (era worked s0) t v → (l : FramedIdent) → PlaceIn t l → placed t l ≡ placed v l
    placed_later v g l h = names_far (era worked s0) t v o.fine g l.frames (placed_entered l h) l.ident (placed_below l h)

    pub macros_later : (v : ScopedState) → Grows (era worked s0) t v → (ks : List ScopedMacro) → (mine : List Number) → AllOf (MacroSits t.uses t.places mine) ks → AllOf (MacroSits v.uses v.places mine) ks
    macros_later v g ks mine h =
        all_of_more (MacroSits t.uses t.places mine) (MacroSits v.uses v.places mine) (λ k q. record { rules = held_more rules_kind (λ i. Placed t.uses t.places (record { frames = k.frames; ident = i })) (λ i. Placed v.uses v.places (record { frames = k.frames; ident = i })) (λ i r. place_later v g (record { frames = k.frames; ident = i }) r) k.rules q.rules; owned = q.owned }) ks h

    -- ---- a macro that is used

    -- its rules stand in the body, or outside
    pub sits_among : (ks : List ScopedMacro) → AllOf (MacroSits t.uses t.places (mine_of t.definitions)) ks → (m : Meaning) → IfMacro (λ (x : Transformer Frames Ident). Held rules_kind (RuleLeaf t x) x.rules) (macro_at ks m)
    sits_among [] h m = tt
    sits_among (k ∷ ks) h m = go (same_meaning k.meaning m) (sits_among ks h.1 m)
      where
        go : (z : Bool) → IfMacro (λ (x : Transformer Frames Ident). Held rules_kind (RuleLeaf t x) x.rules) (macro_at ks m) → IfMacro (λ (x : Transformer Frames Ident). Held rules_kind (RuleLeaf t x) x.rules) (cond z (Some (record { env = k.frames; rules = k.rules })) (macro_at ks m))
        go true e = h.0.rules
        go false e = e

    pub used_sits : (x : Transformer Frames Ident) (i : Ident) → RuleLeaf t x i → Sits b s0.uses c (used_state (era worked s0) x.env t).places (Inserted i (next_number t t.uses))
    used_sits x i (inl q) = inl (around_new (era worked s0) t x.env ∙ q.0, sits_later (used_state (era worked s0) x.env t) (use_grows (era worked s0) t o.fine x.env) i q.1.0 q.1.1)
    used_sits x i (inr q) = inr (subst (Entered (Other b)) (sym (around_new (era worked s0) t x.env)) (entered_other x.env q.0), below_counted (era worked s0) s0.uses i q.1)

    pub used_opened : (x : Transformer Frames Ident) → TransformerFine (era worked s0) t x → Opened (used_state (era worked s0) x.env t)
    used_opened x tf = record {
      fine = use_fine (era worked s0) t o.fine x.env tf.entered tf.binders;
      grows = grows_then (era worked s0) s0 t (used_state (era worked s0) x.env t) o.grows (use_grows (era worked s0) t o.fine x.env);
      entered = o.entered;
      macros = macros_later (used_state (era worked s0) x.env t) (use_grows (era worked s0) t o.fine x.env) t.macros (mine_of t.definitions) o.macros;
      table = o.table;
    }
