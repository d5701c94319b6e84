-- What was made before a clock: later uses, definitions and bodies change no older image, and a new identifier passes through
-- older frames as it came.
use Rattle.std.proofs.Common.{◌≡◌, ℕ, ◌⊎◌, inl, inr, List, [], ◌∷◌, true, false, Option, Some, None, refl, sym, ap, ◌∙◌, subst}
use Rattle.std.proofs.lemmas.Bool.{false_from_ne_true}
use Rattle.scheme_model.specs.Identifiers.{Number, Name, Inserted as InsertedName}
use Rattle.scheme_model.specs.Ident.{Ident, Written, Inserted, same_ident}
use Rattle.scheme_model.specs.Substitution.{Clock}
use Rattle.scheme_model.specs.ScopedExpansion.{Bind, Enter, Frames, BodyDefinitions, UsePlace, around, find}
use Rattle.scheme_model.specs.FrameImages.{is_before, is_older, bound_as, entered_as, before_definition, image_inside, image_outside, frame_image}
use Rattle.scheme_model.proofs.IdentLaws.{ident_told}
use Rattle.scheme_model.proofs.OpenBodies.{Leq, Before, NotYet, Entered, Below, PlacesIn, DefinitionsBelow, FramesOk}
use Rattle.scheme_model.proofs.Clocks.{leq_itself, leq_then, before_more, not_yet_less}

-- ---- bodies around a place

pub entered_more : (P Q : Number → Type 0) → ((b : Number) → P b → Q b) → (fs : Frames) → Entered P fs → Entered Q fs
entered_more P Q h [] e = tt
entered_more P Q h (Bind x v ∷ fs) e = entered_more P Q h fs e
entered_more P Q h (Enter b u ∷ fs) e = (h b e.0, entered_more P Q h fs e.1)

-- the same definitions in these bodies
abbrev pub SameFind : (Number → Type 0) → BodyDefinitions → BodyDefinitions → Type 0
SameFind P ds es = (b : Number) (i : Ident) → P b → find ds b i ≡ find es b i

defined_same : (o : Option (Number × BodyDefinitions)) (g : BodyDefinitions → Name) (ds es : BodyDefinitions) → g ds ≡ g es → before_definition o g ds ≡ before_definition o g es
defined_same None g ds es h = h
defined_same (Some d) g ds es h = refl

pub inside_same : (P : Number → Type 0) (ds es : BodyDefinitions) → SameFind P ds es → (fs : Frames) → Entered P fs → (i : Ident) (outer : BodyDefinitions → Name) → outer ds ≡ outer es → image_inside fs i outer ds ≡ image_inside fs i outer es
inside_same P ds es h [] l i outer e = e
inside_same P ds es h (Bind x v ∷ fs) l i outer e = ap (bound_as (same_ident x i) v) (inside_same P ds es h fs l i outer e)
inside_same P ds es h (Enter b u ∷ fs) l i outer e =
    defined_same (find ds b i) (λ xs. entered_as (is_older b u i) b (image_inside fs i outer xs)) ds es (ap (entered_as (is_older b u i) b) (inside_same P ds es h fs l.1 i outer e))
    ∙ ap (λ o. before_definition o (λ xs. entered_as (is_older b u i) b (image_inside fs i outer xs)) es) (h b i l.0)

-- ---- what a unit's uses made by a clock

module _ (unit : ℕ) where
  pub below_more : (n m : Clock) → Leq n m → (i : Ident) → Below unit n i → Below unit m i
  below_more n m le (Written v s) h = tt
  below_more n m le (Inserted i k) h = (before_more unit n m le k h.0, below_more n m le i h.1)

  -- the same frames around the macros of these uses
  abbrev pub SamePlaces : Clock → List UsePlace → List UsePlace → Type 0
  SamePlaces u ps qs = (k : Number) → Before unit u k → around ps k ≡ around qs k

  -- later uses
  pub outside_places : (u : Clock) (ps qs : List UsePlace) → SamePlaces u ps qs → (i : Ident) → Below unit u i → image_outside ps i ≡ image_outside qs i
  outside_places u ps qs h (Written v s) l = refl
  outside_places u ps qs h (Inserted i k) l =
      let e = h k l.0 in
      let r = outside_places u ps qs h i l.1 in
      λ j ds. InsertedName (image_inside (e j) i (r j) ds) k

  pub image_places : (u : Clock) (ps qs : List UsePlace) (ds : BodyDefinitions) (fs : Frames) → SamePlaces u ps qs → (i : Ident) → Below unit u i → frame_image ps ds fs i ≡ frame_image qs ds fs i
  image_places u ps qs ds fs h i l = ap (λ (g : BodyDefinitions → Name). image_inside fs i g ds) (outside_places u ps qs h i l)

  -- later definitions
  pub outside_definitions : (u : Clock) (P : Number → Type 0) (ps : List UsePlace) (ds es : BodyDefinitions) → PlacesIn unit u P ps → SameFind P ds es → (i : Ident) → Below unit u i → image_outside ps i ds ≡ image_outside ps i es
  outside_definitions u P ps ds es s h (Written v x) l = refl
  outside_definitions u P ps ds es s h (Inserted i k) l =
      ap (λ (x : Name). InsertedName x k) (inside_same P ds es h (around ps k) (s k l.0) i (image_outside ps i) (outside_definitions u P ps ds es s h i l.1))

  pub image_definitions : (u : Clock) (P : Number → Type 0) (ps : List UsePlace) (ds es : BodyDefinitions) → PlacesIn unit u P ps → SameFind P ds es → (fs : Frames) → Entered P fs → (i : Ident) → Below unit u i → frame_image ps ds fs i ≡ frame_image ps es fs i
  image_definitions u P ps ds es s h fs e i l = inside_same P ds es h fs e i (image_outside ps i) (outside_definitions u P ps ds es s h i l)

  -- ---- frames, and what they were made of

  pub definitions_same : (ds es : BodyDefinitions) (u n : Clock) → SameFind (Before unit n) ds es → DefinitionsBelow unit ds u n → DefinitionsBelow unit es u n
  definitions_same ds es u n h d b i l = elim (d b i l) [
    | inl e ↦ inl (sym (h b i l) ∙ e)
    | inr e ↦ inr e
  ]

  pub frames_entered : (ds : BodyDefinitions) (u n : Clock) (fs : Frames) → FramesOk unit ds u n fs → Entered (Before unit n) fs
  frames_entered ds u n [] h = tt
  frames_entered ds u n (Bind x v ∷ fs) h = frames_entered ds u n fs h.1
  frames_entered ds u n (Enter b z ∷ fs) h = (h.2, entered_more (Before unit h.0) (Before unit n) (before_more unit h.0 n h.4) fs (frames_entered ds z h.0 fs h.7))

  pub find_less : (n m : Clock) (ds es : BodyDefinitions) → Leq m n → SameFind (Before unit n) ds es → SameFind (Before unit m) ds es
  find_less n m ds es le h b i l = h b i (before_more unit m n le b l)

  pub frames_later : (ds es : BodyDefinitions) (u n v m : Clock) → SameFind (Before unit n) ds es → Leq u v → Leq n m → (fs : Frames) → FramesOk unit ds u n fs → FramesOk unit es v m fs
  frames_later ds es u n v m h le ln [] k = tt
  frames_later ds es u n v m h le ln (Bind x w ∷ fs) k = (below_more u v le x k.0, frames_later ds es u n v m h le ln fs k.1)
  frames_later ds es u n v m h le ln (Enter b z ∷ fs) k =
      let s = find_less n k.0 ds es k.4 h in
      (k.0, k.1, before_more unit n m ln b k.2, leq_then z u v k.3 le, leq_then k.0 n m k.4 ln, k.5, definitions_same ds es z k.0 s k.6, frames_later ds es z k.0 z k.0 s (leq_itself z) (leq_itself k.0) fs k.7)

  -- ---- a new identifier

  pub not_below : (u : Clock) (k : Number) (i x : Ident) → NotYet unit u k → Below unit u x → same_ident x (Inserted i k) ≡ false
  not_below u k i x e h = false_from_ne_true (same_ident x (Inserted i k)) (λ t. let p : Below unit u (Inserted i k) = subst (Below unit u) (ident_told x (Inserted i k) t) h in let q : true ≡ false = sym p.0 ∙ e in absurd cc)

  pub none_below : (u : Clock) (k : Number) (i : Ident) (o : Option (Number × BodyDefinitions)) → NotYet unit u k → (o ≡ None) ⊎ Below unit u (Inserted i k) → o ≡ None
  none_below u k i o e (inl p) = p
  none_below u k i o e (inr p) = let q : true ≡ false = sym p.0 ∙ e in absurd cc

  -- it stands inside older frames as it stands outside them
  pub inside_new : (ds : BodyDefinitions) (u n : Clock) → DefinitionsBelow unit ds u n → (fs : Frames) → FramesOk unit ds u n fs → (i : Ident) (k : Number) → NotYet unit u k → (outer : BodyDefinitions → Name) → image_inside fs (Inserted i k) outer ds ≡ outer ds
  inside_new ds u n d [] h i k e outer = refl
  inside_new ds u n d (Bind x v ∷ fs) h i k e outer =
      ap (λ t. bound_as t v (image_inside fs (Inserted i k) outer ds)) (not_below u k i x e h.0) ∙ inside_new ds u n d fs h.1 i k e outer
  inside_new ds u n d (Enter b z ∷ fs) h i k e outer =
      let none : find ds b (Inserted i k) ≡ None = none_below u k i (find ds b (Inserted i k)) e (d b (Inserted i k) h.2) in
      let young : NotYet unit z k = not_yet_less unit z u h.3 k e in
      ap (λ o. before_definition o (λ es. entered_as (is_before b.unit z k) b (image_inside fs (Inserted i k) outer es)) ds) none
      ∙ ap (λ t. entered_as t b (image_inside fs (Inserted i k) outer ds)) (ap (λ w. is_before w z k) h.1 ∙ young)
      ∙ inside_new ds z h.0 h.6 fs h.7 i k young outer
