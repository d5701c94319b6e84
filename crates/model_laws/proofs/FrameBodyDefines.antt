-- A definition in an open body: both sides refuse it for the same reason, or define it alike.
use Rattle.std.proofs.Common.{◌≡◌, ℕ, ◌⊎◌, inl, inr, List, [], ◌∷◌, map, Bool, true, false, cond, Option, Some, None, refl, sym, ap, ◌∙◌, subst}
use Rattle.std.specs.Prelude.{◌&&◌, ◌||◌}
use Rattle.scheme_model.specs.Identifiers.{Number, same_number, Name}
use Rattle.scheme_model.specs.Ident.{Ident, Written, Inserted, same_ident}
use Rattle.scheme_model.specs.Meaning.{Meaning, Local, Global, Standard, Free, same_meaning}
use Rattle.scheme_model.specs.Requirements.{Known}
use Rattle.scheme_model.specs.RulesShape.{rules_map, option_map}
use Rattle.scheme_model.specs.Order.{Note, LookedUp, Compared, Pending, is_some}
use Rattle.scheme_model.specs.Substitution.{Defined, defined_in, form_map, item_map, use_map, note_map, pending_map, meaning, deep, asks, any, differ, is_refused, is_mine, is_among, is_own, rules_mapped, own_rules}
use Rattle.scheme_model.specs.Scopes.{defined_or}
use Rattle.scheme_model.specs.ScopedExpansion.{Frames, BodyDefinitions, FramedIdent, ScopedMacro, ScopedState, find, next_number, means_inside, means_outside, means_at}
use Rattle.scheme_model.specs.FrameImages.{is_before, is_older, entered_as, before_definition, image_inside, image_outside, frame_image}
use Rattle.scheme_model.proofs.OpenBodies.{NotYet, Entered, PlacesIn, DefinitionsBelow, FramesOk, Other}
use Rattle.model_laws.proofs.FrameEras.{Before, below_counted}
use Rattle.scheme_model.proofs.RenamingLaws.{map_after}
use Rattle.scheme_model.proofs.IdentLaws.{number_itself}
use Rattle.model_laws.proofs.IdentKinds.{rules_kind, form_fused, item_fused, use_fused, rules_fused}
use Rattle.model_laws.proofs.FrameTimes.{image_definitions, inside_new}
use Rattle.model_laws.proofs.FrameBodies.{raw}
use Rattle.model_laws.proofs.FrameDefines.{same_elsewhere, far, defined_image}
use Rattle.model_laws.proofs.FrameAsks.{AllOf, meaning_deep, MeansCounted, not_next, inside_counted, outside_counted, BindersCounted}
use Rattle.model_laws.proofs.FrameComing.{comes_outside, comes_to, Unasked, asks_far, asks_image, outside_far, means_with}
use Rattle.model_laws.proofs.FrameStates.{era, names, seen_macro, Fine, Stands, MacroFine, binders_more, names_mean, next_new}
use Rattle.model_laws.proofs.FrameLeaves.{Held, held_same}
use Rattle.model_laws.proofs.FrameUses.{placed}
use Rattle.model_laws.proofs.FrameHeld.{NoteAll, PendingHeld, pending_same}
use Rattle.model_laws.proofs.FrameOpen.{b, home, mine_of, MacroSits, Opened, Leaf, PlaceIn, entered_other, young, places_in, definitions_in, frames_in, stands_in}

-- two changes in turn, of what is left
notes_fused : {L M N : Type 0} (g : M → N) (h : L → M) (n : Note L) → note_map g (note_map h n) ≡ note_map (λ l. g (h l)) n
notes_fused g h (LookedUp l head keyword) = refl
notes_fused g h (Compared l j held) = refl

pending_fused : (g : Name → Name) (f : Ident → Name) (h : FramedIdent → Name) (p : Pending Ident FramedIdent) → pending_map g g (pending_map f h p) ≡ pending_map (λ i. g (f i)) (λ l. g (h l)) p
pending_fused g f h p =
    let a = map_after (form_map g) (form_map f) (form_map (λ i. g (f i))) (form_fused Ident Name Name g f) p.todo in
    let b = map_after (item_map g) (item_map f) (item_map (λ i. g (f i))) (item_fused Ident Name Name g f) p.aside in
    let c = map_after (note_map g) (note_map h) (note_map (λ l. g (h l))) (notes_fused g h) p.notes in
    let u = map_after (use_map g) (use_map f) (use_map (λ i. g (f i))) (use_fused Ident Name Name g f) p.uses in
    λ j. record { todo = a j; aside = b j; uses = u j; notes = c j }

-- refused on both sides
pub refused_same : {L M : Type 0} (P : L → Type 0) (g : L → M) (new : Bool) (asked : L → Bool) (asked' : M → Bool) (now : L → Meaning) (now' : M → Meaning) → ((l : L) → P l → asked' (g l) ≡ asked l) → ((l : L) → P l → now' (g l) ≡ now l)
    → (n : Note L) → NoteAll P n → is_refused new asked' now' (note_map g n) ≡ is_refused new asked now n
refused_same P g new asked asked' now now' e d (LookedUp l head keyword) h = ap (λ t. t && (keyword || (head && new))) (e l h)
refused_same P g new asked asked' now now' e d (Compared l j held) h =
    let a = e l h.0 in let b = e j h.1 in let x = d l h.0 in let y = d j h.1 in
    λ i. (a i || b i) && differ held (same_meaning (x i) (y i))

pub any_same : {L M : Type 0} (P : Note L → Type 0) (g : Note L → Note M) (p : Note L → Bool) (q : Note M → Bool) → ((n : Note L) → P n → q (g n) ≡ p n) → (ns : List (Note L)) → AllOf P ns → any q (map g ns) ≡ any p ns
any_same P g p q e [] h = refl
any_same P g p q e (n ∷ ns) h = let a = e n h.0 in let b = any_same P g p q e ns h.1 in λ j. a j || b j

pub some_same : {X Y : Type 0} (h : X → Y) (o : Option X) → is_some (option_map h o) ≡ is_some o
some_same h None = refl
some_same h (Some x) = refl

abbrev option_or : {Y : Type 0} → Y → Option Y → Y
option_or y None = y
option_or y (Some z) = z

or_true : (z : Bool) → (z || true) ≡ true
or_true true = refl
or_true false = refl

module _ (worked : ℕ → Bool) (known : Known) (s0 : ScopedState) (f0 : Fine (era worked s0) s0.locals s0.uses s0.bodies s0.table s0.entry s0.macros s0.places s0.definitions) (c : Frames) (st0 : Stands (era worked s0) s0 c) (t : ScopedState) (o : Opened worked known s0 f0 c st0 t) (x : Ident) where
  abbrev body : Number
  body = b worked known s0 f0 c st0

  abbrev frames : Frames
  frames = home worked known s0 f0 c st0

  abbrev mine : BodyDefinitions → List Number
  mine ds = mine_of worked known s0 f0 c st0 ds

  abbrev Stood : ScopedState → FramedIdent → Type 0
  Stood v l = PlaceIn worked known s0 f0 c st0 v l

  abbrev X : Name
  X = names t frames x

  abbrev v : Number
  v = next_number t t.locals

  abbrev later : BodyDefinitions
  later = record { body = body; ident = x; binder = v } ∷ t.definitions

  in_places : PlacesIn s0.unit s0.uses (Other body) t.places
  in_places = places_in worked known s0 f0 c st0 t o

  is_young : NotYet s0.unit s0.bodies body
  is_young = young worked known s0 f0 c st0

  in_definitions : DefinitionsBelow s0.unit t.definitions s0.uses s0.bodies
  in_definitions = definitions_in worked known s0 f0 c st0 t o

  in_frames : FramesOk s0.unit t.definitions s0.uses s0.bodies c
  in_frames = frames_in worked known s0 f0 c st0 t o

  other : (fs : Frames) → Entered (Before (era worked s0) s0.bodies) fs → Entered (Other body) fs
  other fs e = entered_other worked known s0 f0 c st0 fs e

  -- ---- what asks x

  asks_place : (l : FramedIdent) → Stood t l → asks X (placed t l) ≡ comes_to body x t.places t.definitions l.frames l.ident
  asks_place l (inl q) = subst (λ (fs : Frames). asks X (frame_image t.places t.definitions fs l.ident) ≡ comes_to body x t.places t.definitions fs l.ident) (sym q.0) (asks_image body s0.uses c t.places t.definitions s0.bodies in_places is_young in_definitions in_frames x l.ident q.1.1)
  asks_place l (inr q) = asks_far body s0.uses c t.places t.definitions s0.bodies in_places is_young in_definitions in_frames x l.frames (other l.frames q.0) l.ident (below_counted (era worked s0) s0.uses l.ident q.1)

  unasked : Unasked body x v t.definitions t.table t.entry t.places
  unasked k i = go (defined_in t.table k.unit (Inserted i k)) refl
    where
      go : (d : Option Defined) → defined_in t.table k.unit (Inserted i k) ≡ d → (defined_or d k.unit (Inserted i k) None ≡ None) ⊎ (comes_outside body x t.places t.definitions (Inserted i k) ≡ false)
      go None e = inl refl
      go (Some d) e = inr (outside_far body s0.uses c t.places t.definitions s0.bodies in_places is_young in_definitions in_frames x (Inserted i k) (below_counted (era worked s0) s0.uses (Inserted i k) (o.table k.unit (Inserted i k) (ap is_some e))))

  -- what it means once x is added
  abbrev added_means : FramedIdent → Meaning
  added_means l = means_inside later l.frames l.ident (means_outside t.table t.entry t.places later l.ident)

  means_added : (l : FramedIdent) → Stood t l → added_means l ≡ cond (asks X (placed t l)) (Local v) (means_at t l.frames l.ident)
  means_added l h =
      means_with body x v t.definitions t.table t.entry t.places unasked l.frames l.ident ∙ ap (λ z. cond z (Local v) (means_at t l.frames l.ident)) (sym (asks_place l h))

  pub now_same : (l : FramedIdent) → Stood t l → meaning t.table t.entry (deep X v (placed t l)) ≡ added_means l
  now_same l h = meaning_deep t.table t.entry X v (placed t l) ∙ ap (cond (asks X (placed t l)) (Local v)) (names_mean (era worked s0) t o.fine l.frames l.ident) ∙ sym (means_added l h)

  binders_of : (l : FramedIdent) → Stood t l → BindersCounted (era worked s0) t.locals l.frames
  binders_of l (inl q) = subst (BindersCounted (era worked s0) t.locals) (sym q.0) (stands_in worked known s0 f0 c st0 t o).1
  binders_of l (inr q) = binders_more (era worked s0) s0.locals t.locals o.grows.locals l.frames q.2

  -- nothing means the next local's number yet
  fresh : (l : FramedIdent) → Stood t l → same_meaning (means_at t l.frames l.ident) (Local v) ≡ false
  fresh l h =
      not_next (era worked s0) t.locals v (next_new (era worked s0) t o.fine t.locals) (means_at t l.frames l.ident)
      (inside_counted (era worked s0) t.locals t.definitions o.fine.1.binders l.frames (binders_of l h) l.ident (means_outside t.table t.entry t.places t.definitions l.ident)
      (outside_counted (era worked s0) t.locals t.table t.entry o.fine.1.entries t.places o.fine.1.places t.definitions o.fine.1.binders l.ident))

  pub asked_same : (l : FramedIdent) → Stood t l → asks X (placed t l) ≡ same_meaning (added_means l) (Local v)
  asked_same l h = go (asks X (placed t l)) ∙ ap (λ m. same_meaning m (Local v)) (sym (means_added l h))
    where
      go : (z : Bool) → z ≡ same_meaning (cond z (Local v) (means_at t l.frames l.ident)) (Local v)
      go true = sym (number_itself v)
      go false = sym (fresh l h)

  -- ---- what is defined already

  raw_mine : (vs : List Number) → is_mine vs (raw body s0.uses c t.places t.definitions s0.bodies in_places is_young in_definitions in_frames x t.definitions) ≡ false
  raw_mine vs = by_cases x
    where
      by_cases : (y : Ident) → is_mine vs (entered_as (is_older body s0.uses y) body (image_inside c y (image_outside t.places y) t.definitions)) ≡ false
      by_cases (Written z s) = refl
      by_cases (Inserted i k) = go (is_before s0.unit s0.uses k) refl
        where
          go : (z : Bool) → is_before s0.unit s0.uses k ≡ z → is_mine vs (entered_as z body (image_inside c (Inserted i k) (image_outside t.places (Inserted i k)) t.definitions)) ≡ false
          go true e = refl
          go false e = ap (is_mine vs) (inside_new s0.unit t.definitions s0.uses s0.bodies in_definitions c in_frames i k e (image_outside t.places (Inserted i k)))

  found_mine : (ds : BodyDefinitions) (i : Ident) (d : Number × BodyDefinitions) → find ds body i ≡ Some d → is_among d.0 (mine ds) ≡ true
  found_mine [] i d e = absurd cc
  found_mine (z ∷ ds) i d e = go (same_number z.body body) (same_ident z.ident i) e (found_mine ds i d)
    where
      some_is : {Y : Type 0} (p q : Y) → ◌≡◌ {A = Option Y} (Some p) (Some q) → p ≡ q
      some_is p q r = ap (λ y. option_or p y) r

      go : (p q : Bool) → cond (p && q) (Some (z.binder, ds)) (find ds body i) ≡ Some d → (find ds body i ≡ Some d → is_among d.0 (mine ds) ≡ true) → is_among d.0 (cond p (z.binder ∷ mine ds) (mine ds)) ≡ true
      go true true r ih = ap (λ y. same_number y z.binder || is_among y (mine ds)) (sym (ap (λ y. y.0) (some_is (z.binder, ds) d r))) ∙ ap (λ y. y || is_among z.binder (mine ds)) (number_itself z.binder)
      go true false r ih = ap (λ y. same_number d.0 z.binder || y) (ih r) ∙ or_true (same_number d.0 z.binder)
      go false true r ih = ih r
      go false false r ih = ih r

  pub mine_same : is_mine (mine t.definitions) X ≡ is_some (find t.definitions body x)
  mine_same = go (find t.definitions body x) refl
    where
      go : (z : Option (Number × BodyDefinitions)) → find t.definitions body x ≡ z → is_mine (mine t.definitions) (before_definition z (raw body s0.uses c t.places t.definitions s0.bodies in_places is_young in_definitions in_frames x) t.definitions) ≡ is_some z
      go None e = raw_mine (mine t.definitions)
      go (Some d) e = found_mine t.definitions x d e

  -- ---- what is left, once x is defined

  module _ (free : find t.definitions body x ≡ None) where
    place_defined : (l : FramedIdent) → Stood t l → deep X v (placed t l) ≡ frame_image t.places later l.frames l.ident
    place_defined l (inl q) = subst (λ (fs : Frames). deep X v (frame_image t.places t.definitions fs l.ident) ≡ frame_image t.places later fs l.ident) (sym q.0) (defined_image body s0.uses c t.places t.definitions s0.bodies in_places is_young in_definitions in_frames x v free l.ident q.1.1)
    place_defined l (inr q) = far body s0.uses c t.places t.definitions s0.bodies in_places is_young in_definitions in_frames x v free l.frames (other l.frames q.0) l.ident (below_counted (era worked s0) s0.uses l.ident q.1)

    pub leaf_defined : (i : Ident) → Leaf worked known s0 f0 c st0 t i → deep X v (names t frames i) ≡ frame_image t.places later frames i
    leaf_defined i h = place_defined (record { frames = frames; ident = i }) (inl (refl, h))

    pub pending_defined : (p : Pending Ident FramedIdent) → PendingHeld (Leaf worked known s0 f0 c st0 t) (Stood t) p
        → pending_map (deep X v) (deep X v) (pending_map (names t frames) (placed t) p) ≡ pending_map (frame_image t.places later frames) (λ l. frame_image t.places later l.frames l.ident) p
    pending_defined p h =
        pending_fused (deep X v) (names t frames) (placed t) p
        ∙ pending_same (Leaf worked known s0 f0 c st0 t) (Stood t) (λ i. deep X v (names t frames i)) (frame_image t.places later frames) (λ l. deep X v (placed t l)) (λ l. frame_image t.places later l.frames l.ident) leaf_defined place_defined p h

    -- a macro of the body, and one from outside
    pub own_later : (m : Meaning) → is_own (mine t.definitions) m ≡ true → is_own (v ∷ mine t.definitions) m ≡ true
    own_later (Local z) e = ap (λ y. same_number z v || y) e ∙ or_true (same_number z v)
    own_later (Global u i) e = e
    own_later (Standard s) e = e
    own_later (Free s) e = e

    pub foreign_later : (m : Meaning) → MeansCounted (era worked s0) t.locals m → is_own (mine t.definitions) m ≡ false → is_own (v ∷ mine t.definitions) m ≡ false
    foreign_later (Local z) k e = let p = not_next (era worked s0) t.locals v (next_new (era worked s0) t o.fine t.locals) (Local z) k in λ j. p j || e j
    foreign_later (Global u i) k e = e
    foreign_later (Standard s) k e = e
    foreign_later (Free s) k e = e

    pub rules_defined : (k : ScopedMacro) → Held rules_kind (λ i. Stood t (record { frames = k.frames; ident = i })) k.rules → rules_map (deep X v) (rules_map (names t k.frames) k.rules) ≡ rules_map (frame_image t.places later k.frames) k.rules
    rules_defined k h =
        rules_fused Ident Name Name (deep X v) (names t k.frames) k.rules
        ∙ held_same rules_kind (λ i. Stood t (record { frames = k.frames; ident = i })) (λ i. deep X v (names t k.frames i)) (frame_image t.places later k.frames) (λ i q. place_defined (record { frames = k.frames; ident = i }) q) k.rules h

    not_home : Entered (Before (era worked s0) s0.bodies) frames → ⊥
    not_home e = let q : true ≡ false = sym e.0.0 ∙ is_young in absurd cc

    rules_foreign : (k : ScopedMacro) → Entered (Before (era worked s0) s0.bodies) k.frames → Held rules_kind (λ i. Stood t (record { frames = k.frames; ident = i })) k.rules → rules_map (names t k.frames) k.rules ≡ rules_map (frame_image t.places later k.frames) k.rules
    rules_foreign k e h = held_same rules_kind (λ i. Stood t (record { frames = k.frames; ident = i })) (names t k.frames) (frame_image t.places later k.frames) one k.rules h
      where
        one : (i : Ident) → Stood t (record { frames = k.frames; ident = i }) → names t k.frames i ≡ frame_image t.places later k.frames i
        one i (inl q) = absurd (not_home (subst (Entered (Before (era worked s0) s0.bodies)) q.0 e))
        one i (inr q) = image_definitions s0.unit s0.uses (Other body) t.places t.definitions later in_places (same_elsewhere body s0.uses c t.places t.definitions s0.bodies in_places is_young in_definitions in_frames x v free) k.frames (other k.frames e) i (below_counted (era worked s0) s0.uses i q.1)

    macro_defined : (k : ScopedMacro) → MacroSits worked known s0 f0 c st0 t.uses t.places (mine t.definitions) k → MeansCounted (era worked s0) t.locals k.meaning → own_rules (v ∷ mine t.definitions) (deep X v) (seen_macro t.places t.definitions k) ≡ seen_macro t.places later k
    macro_defined k h q = go h.owned
      where
        go : ((is_own (mine t.definitions) k.meaning ≡ true) × (k.frames ≡ frames)) ⊎ ((is_own (mine t.definitions) k.meaning ≡ false) × Entered (Before (era worked s0) s0.bodies) k.frames)
            → own_rules (v ∷ mine t.definitions) (deep X v) (seen_macro t.places t.definitions k) ≡ seen_macro t.places later k
        go (inl e) =
            ap (λ z. record { meaning = k.meaning; rules = rules_mapped z (deep X v) (rules_map (names t k.frames) k.rules) }) (own_later k.meaning e.0)
            ∙ ap (λ r. record { meaning = k.meaning; rules = r }) (rules_defined k h.rules)
        go (inr e) =
            ap (λ z. record { meaning = k.meaning; rules = rules_mapped z (deep X v) (rules_map (names t k.frames) k.rules) }) (foreign_later k.meaning q e.0)
            ∙ ap (λ r. record { meaning = k.meaning; rules = r }) (rules_foreign k e.1 h.rules)

    pub macros_defined : (ks : List ScopedMacro) → AllOf (MacroSits worked known s0 f0 c st0 t.uses t.places (mine t.definitions)) ks → AllOf (MacroFine (era worked s0) t.locals t.uses t.bodies) ks
        → map (own_rules (v ∷ mine t.definitions) (deep X v)) (map (seen_macro t.places t.definitions) ks) ≡ map (seen_macro t.places later) ks
    macros_defined [] h q = refl
    macros_defined (k ∷ ks) h q = let a = macro_defined k h.0 q.0.meaning in let z = macros_defined ks h.1 q.1 in λ j. a j ∷ z j
