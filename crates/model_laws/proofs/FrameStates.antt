-- What the definition's side has of a state of the scoped side; what holds of a state; and what later states keep.
use Rattle.std.proofs.Common.{◌≡◌, ℕ, suc, List, [], ◌∷◌, map, Bool, true, Option, Some, None, refl, sym, ap, ◌∙◌, subst}
use Rattle.scheme_model.specs.Identifiers.{Number, Name}
use Rattle.scheme_model.specs.Ident.{Ident}
use Rattle.scheme_model.specs.Meaning.{Meaning, Local, Global, Standard, Free}
use Rattle.scheme_model.specs.RulesShape.{rules_map}
use Rattle.scheme_model.specs.Order.{is_some}
use Rattle.scheme_model.specs.Substitution.{Table, Entries, Clock, at_form, defined_in, is_plain, meaning, KeptMacro, State}
use Rattle.scheme_model.specs.ScopedExpansion.{Bind, Enter, Frames, BodyDefinition, BodyDefinitions, UsePlace, ScopedMacro, ScopedState, around, next_number, means_at}
use Rattle.scheme_model.specs.FrameImages.{image_outside, frame_image, DefinesOutside}
use Rattle.scheme_model.proofs.OpenBodies.{Before as Counted, DefinitionsBelow, Entered, FramesOk, Leq, NotYet}
use Rattle.model_laws.proofs.IdentKinds.{Kind, mapped_same, rules_kind}
use Rattle.scheme_model.proofs.Clocks.{leq_itself, leq_then, before_more as counted_more, numbered, next_not_yet, next_counted}
use Rattle.model_laws.proofs.FrameNames.{meaning_frame_image}
use Rattle.model_laws.proofs.FrameTimes.{entered_more, SameFind, SamePlaces, image_places, image_definitions, frames_later}
use Rattle.model_laws.proofs.FrameEras.{Era, Before, Below, unit_worked, before_more, below_more, below_counted, entered_counted, frames_entered}
use Rattle.model_laws.proofs.FrameAsks.{AllOf, all_of_more, MeansCounted, GivenCounted, BindersCounted, DefinitionsCounted}
use Rattle.model_laws.proofs.FrameRoots.{UnitMacro}

-- ---- the view

-- what an identifier has become in a state
abbrev pub names : ScopedState → Frames → Ident → Name
names s fs i = frame_image s.places s.definitions fs i

abbrev pub seen_macro : List UsePlace → BodyDefinitions → ScopedMacro → KeptMacro
seen_macro ps ds k = record { meaning = k.meaning; rules = rules_map (frame_image ps ds k.frames) k.rules }

-- the innermost body that is open has no twin on the scoped side
abbrev pub view : Bool → List Number → ScopedState → State
view in_body mine s = record {
  unit = s.unit;
  program = s.program;
  form = s.form;
  locals = s.locals;
  uses = s.uses;
  nodes = s.nodes;
  bodies = s.bodies;
  keywords = s.keywords;
  met = s.met;
  table = s.table;
  entry = s.entry;
  macros = map (seen_macro s.places s.definitions) s.macros;
  in_body = in_body;
  mine = mine;
}

-- ---- structures whose identifiers were made by then

abbrev pub Old : Era → Clock → Type 0
Old w u = (i : Ident) × Below w u i

abbrev pub ident_of : (w : Era) (u : Clock) → Old w u → Ident
ident_of w u p = p.0

pub record Made (k : Kind) (w : Era) (u : Clock) (x : k.of Ident) : Type 0 where
  pub clock : Clock
  pub earlier : Leq clock u
  pub made : k.of (Old w clock)
  pub same : k.map (Old w clock) Ident (ident_of w clock) made ≡ x

pub made_later : (k : Kind) (w : Era) (u v : Clock) → Leq u v → (x : k.of Ident) → Made k w u x → Made k w v x
made_later k w u v le x m = record { clock = m.clock; earlier = leq_then m.clock u v m.earlier le; made = m.made; same = m.same }

-- maps that agree on what was made by then
pub made_same : (k : Kind) (w : Era) (u : Clock) (f g : Ident → Name) → ((i : Ident) → Below w u i → f i ≡ g i) → (x : k.of Ident) → Made k w u x → k.map Ident Name f x ≡ k.map Ident Name g x
made_same k w u f g e x m =
    ap (k.map Ident Name f) (sym m.same)
    ∙ k.fused (Old w m.clock) Ident Name f (ident_of w m.clock) m.made
    ∙ mapped_same k (Old w m.clock) Name (λ p. f p.0) (λ p. g p.0) (λ p. e p.0 (below_more w m.clock u m.earlier p.0 p.1)) m.made
    ∙ sym (k.fused (Old w m.clock) Ident Name g (ident_of w m.clock) m.made)
    ∙ ap (k.map Ident Name g) m.same

-- the unit of a state, after others
abbrev pub era : (ℕ → Bool) → ScopedState → Era
era worked s = record { unit = s.unit; worked = worked }

-- ---- what holds of a state

module _ (w : Era) where
  -- a macro of a unit w: where it was defined, and what its rules are made of
  pub record MacroFine (l u b : Clock) (k : ScopedMacro) : Type 0 where
    pub entered : Entered (Before w b) k.frames
    pub rules : Made rules_kind w u k.rules
    pub binders : BindersCounted w l k.frames
    pub meaning : MeansCounted w l k.meaning

  pub record Fine (l u b : Clock) (table : Table) (entry : Entries) (ms : List ScopedMacro) (ps : List UsePlace) (ds : BodyDefinitions) : Type 0 where
    pub definitions : DefinitionsBelow w.unit ds u b
    pub bodies : AllOf (λ (d : BodyDefinition). Before w b d.body) ds
    pub idents : AllOf (λ (d : BodyDefinition). Below w u d.ident) ds
    pub entered : (k : Number) → Entered (Before w b) (around ps k)
    pub macros : AllOf (MacroFine l u b) ms
    pub stands : AllOf (UnitMacro w u ps) ms
    -- what units define was made before, where nothing local is around
    pub outside : (v : ℕ) (i : Ident) → is_some (defined_in table v i) ≡ true → Below w u i × ((es : BodyDefinitions) → is_plain (image_outside ps i es) ≡ true)
    pub binders : DefinitionsCounted w l ds
    pub places : (k : Number) → BindersCounted w l (around ps k)
    pub entries : (v : ℕ) (s : List ℕ) → GivenCounted w l (entry v s)

  abbrev pub FineState : ScopedState → Type 0
  FineState s = (s.unit ≡ w.unit) × Fine s.locals s.uses s.bodies s.table s.entry s.macros s.places s.definitions

  -- a later state: what was there is as it was
  pub record Later (u b l : Clock) (ps : List UsePlace) (ds : BodyDefinitions) (u' b' l' : Clock) (ps' : List UsePlace) (ds' : BodyDefinitions) : Type 0 where
    pub uses : Leq u u'
    pub bodies : Leq b b'
    pub locals : Leq l l'
    pub places : SamePlaces w.unit u ps ps'
    pub definitions : SameFind (Counted w.unit b) ds ds'

  abbrev pub Grows : ScopedState → ScopedState → Type 0
  Grows s t = Later s.uses s.bodies s.locals s.places s.definitions t.uses t.bodies t.locals t.places t.definitions

  pub grows_itself : (s : ScopedState) → Grows s s
  grows_itself s = record { uses = leq_itself s.uses; bodies = leq_itself s.bodies; locals = leq_itself s.locals; places = λ k h. refl; definitions = λ b i h. refl }

  pub grows_then : (s t v : ScopedState) → Grows s t → Grows t v → Grows s v
  grows_then s t v g h = record {
    uses = leq_then s.uses t.uses v.uses g.uses h.uses;
    bodies = leq_then s.bodies t.bodies v.bodies g.bodies h.bodies;
    locals = leq_then s.locals t.locals v.locals g.locals h.locals;
    places = λ k e. g.places k e ∙ h.places k (counted_more w.unit s.uses t.uses g.uses k e);
    definitions = λ b i e. g.definitions b i e ∙ h.definitions b i (counted_more w.unit s.bodies t.bodies g.bodies b e);
  }

  pub outside_of : (s : ScopedState) → FineState s → DefinesOutside s.table s.places
  outside_of s f v i es e = (f.1.outside v i e).1 es

  -- an image means what the frames give
  pub names_mean : (s : ScopedState) → FineState s → (fs : Frames) (i : Ident) → meaning s.table s.entry (names s fs i) ≡ means_at s fs i
  names_mean s f fs i = meaning_frame_image s.table s.entry s.places (outside_of s f) s.definitions fs i

  -- ---- places in a state

  pub binders_more : (n m : Clock) → Leq n m → (fs : Frames) → BindersCounted w n fs → BindersCounted w m fs
  binders_more n m le [] h = tt
  binders_more n m le (Bind x v ∷ fs) h = (before_more w n m le v h.0, binders_more n m le fs h.1)
  binders_more n m le (Enter b u ∷ fs) h = binders_more n m le fs h

  -- where an expression stands
  abbrev pub Stands : ScopedState → Frames → Type 0
  Stands s fs = FramesOk w.unit s.definitions s.uses s.bodies fs × BindersCounted w s.locals fs

  pub stands_later : (s t : ScopedState) → Grows s t → (fs : Frames) → Stands s fs → Stands t fs
  stands_later s t g fs h = (frames_later w.unit s.definitions t.definitions s.uses s.bodies t.uses t.bodies g.definitions g.uses g.bodies fs h.0, binders_more s.locals t.locals g.locals fs h.1)

  pub names_far : (s t : ScopedState) → FineState s → Grows s t → (fs : Frames) → Entered (Before w s.bodies) fs → (i : Ident) → Below w s.uses i → names s fs i ≡ names t fs i
  names_far s t f g fs e i l =
      let p = below_counted w s.uses i l in
      image_definitions w.unit s.uses (Counted w.unit s.bodies) s.places s.definitions t.definitions (λ k h. entered_counted w s.bodies (around s.places k) (f.1.entered k)) g.definitions fs (entered_counted w s.bodies fs e) i p
      ∙ image_places w.unit s.uses s.places t.places t.definitions fs g.places i p

  pub names_later : (s t : ScopedState) → FineState s → Grows s t → (fs : Frames) → Stands s fs → (i : Ident) → Below w s.uses i → names s fs i ≡ names t fs i
  names_later s t f g fs h i l = names_far s t f g fs (frames_entered w s.definitions s.uses s.bodies fs h.0) i l

  pub macros_later : (s t : ScopedState) → FineState s → Grows s t → (ms : List ScopedMacro) → AllOf (MacroFine s.locals s.uses s.bodies) ms → map (seen_macro s.places s.definitions) ms ≡ map (seen_macro t.places t.definitions) ms
  macros_later s t f g [] h = refl
  macros_later s t f g (k ∷ ks) h =
      let rs = made_same rules_kind w s.uses (names s k.frames) (names t k.frames) (names_far s t f g k.frames h.0.entered) k.rules h.0.rules in
      let rest = macros_later s t f g ks h.1 in
      λ j. record { meaning = k.meaning; rules = rs j } ∷ rest j

  -- ---- what holds stays

  means_more : (n m : Clock) → Leq n m → (x : Meaning) → MeansCounted w n x → MeansCounted w m x
  means_more n m le (Local v) h = before_more w n m le v h
  means_more n m le (Global u i) h = tt
  means_more n m le (Standard s) h = tt
  means_more n m le (Free s) h = tt

  pub macro_more : (l u b l' u' b' : Clock) → Leq l l' → Leq u u' → Leq b b' → (ms : List ScopedMacro) → AllOf (MacroFine l u b) ms → AllOf (MacroFine l' u' b') ms
  macro_more l u b l' u' b' ll lu lb ms h =
      all_of_more (MacroFine l u b) (MacroFine l' u' b') (λ k m. record { entered = entered_more (Before w b) (Before w b') (before_more w b b' lb) k.frames m.entered; rules = made_later rules_kind w u u' lu k.rules m.rules; binders = binders_more l l' ll k.frames m.binders; meaning = means_more l l' ll k.meaning m.meaning }) ms h

  given_more : (n m : Clock) → Leq n m → (o : Option Meaning) → GivenCounted w n o → GivenCounted w m o
  given_more n m le None h = tt
  given_more n m le (Some x) h = means_more n m le x h

  definitions_more : (n m : Clock) → Leq n m → (ds : BodyDefinitions) → DefinitionsCounted w n ds → DefinitionsCounted w m ds
  definitions_more n m le ds h = all_of_more (λ (d : BodyDefinition). Before w n d.binder) (λ (d : BodyDefinition). Before w m d.binder) (λ d e. before_more w n m le d.binder e) ds h

  -- more locals are counted
  pub locals_fine : (s : ScopedState) (n : Clock) → Leq s.locals n → FineState s → FineState (record s { locals = n })
  locals_fine s n le f = (
    f.0,
    record {
      definitions = f.1.definitions;
      bodies = f.1.bodies;
      idents = f.1.idents;
      entered = f.1.entered;
      macros = macro_more s.locals s.uses s.bodies n s.uses s.bodies le (leq_itself s.uses) (leq_itself s.bodies) s.macros f.1.macros;
      stands = f.1.stands;
      outside = f.1.outside;
      binders = definitions_more s.locals n le s.definitions f.1.binders;
      places = λ k. binders_more s.locals n le (around s.places k) (f.1.places k);
      entries = λ v x. given_more s.locals n le (s.entry v x) (f.1.entries v x);
    },
  )

  pub locals_grow : (s : ScopedState) (n : Clock) → Leq s.locals n → Grows s (record s { locals = n })
  locals_grow s n le = record { uses = leq_itself s.uses; bodies = leq_itself s.bodies; locals = le; places = λ k h. refl; definitions = λ b i h. refl }

  -- the rules of a macro are kept
  pub macro_fine : (s : ScopedState) (k : ScopedMacro) → MacroFine s.locals s.uses s.bodies k → UnitMacro w s.uses s.places k → FineState s → FineState (record s { macros = k ∷ s.macros })
  macro_fine s k m q f = (
    f.0,
    record {
      definitions = f.1.definitions;
      bodies = f.1.bodies;
      idents = f.1.idents;
      entered = f.1.entered;
      macros = (m, f.1.macros);
      stands = (q, f.1.stands);
      outside = f.1.outside;
      binders = f.1.binders;
      places = f.1.places;
      entries = f.1.entries;
    },
  )

  -- ---- the next number of a form

  next_is : (s : ScopedState) → FineState s → (n : Clock) → next_number s n ≡ numbered w.unit s.form n
  next_is s f n = ap (λ (v : ℕ). numbered v s.form n) f.0

  pub next_new : (s : ScopedState) → FineState s → (n : Clock) → NotYet w.unit n (next_number s n)
  next_new s f n = subst (NotYet w.unit n) (sym (next_is s f n)) (next_not_yet w.unit s.form n)

  pub next_old : (s : ScopedState) → FineState s → (n : Clock) → Before w (at_form s.form suc n) (next_number s n)
  next_old s f n = (subst (Counted w.unit (at_form s.form suc n)) (sym (next_is s f n)) (next_counted w.unit s.form n), unit_worked w s.unit f.0)
