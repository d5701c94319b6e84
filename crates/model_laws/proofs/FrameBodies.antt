-- The law of one definition: to substitute its name deeply is to find it in the scope. A body, its frames, and what can stand in it.
use Rattle.std.proofs.Common.{◌≡◌, inl, inr, List, [], ◌∷◌, Bool, true, false, cond, Option, Some, None, refl, sym, ap, ◌∙◌, subst}
use Rattle.std.proofs.lemmas.Bool.{false_from_ne_true}
use Rattle.scheme_model.specs.Identifiers.{Number, same_number, Name, Written as WrittenName, Inserted as InsertedName, Inner, Var, same_name}
use Rattle.scheme_model.specs.Ident.{Ident, Written, Inserted, same_ident}
use Rattle.scheme_model.specs.Substitution.{Clock, deep}
use Rattle.scheme_model.specs.ScopedExpansion.{Bind, Enter, Frames, BodyDefinitions, UsePlace, around, find}
use Rattle.scheme_model.specs.FrameImages.{is_before, is_older, bound_as, entered_as, before_definition, image_inside, image_outside, frame_image}
use Rattle.scheme_model.proofs.IdentLaws.{number_told, number_itself, name_told, name_itself}
use Rattle.scheme_model.proofs.OpenBodies.{Before, NotYet, Entered, Below, PlacesIn, DefinitionsBelow, FramesOk, Other, Sits}
use Rattle.model_laws.proofs.FrameTimes.{entered_more, frames_entered, inside_new}

pub deep_itself : (x : Name) (v : Number) → deep x v x ≡ Var v x
deep_itself (WrittenName u s) v = ap (λ t. cond t (Var v (WrittenName u s)) (WrittenName u s)) (name_itself (WrittenName u s))
deep_itself (InsertedName j k) v = ap (λ t. cond t (Var v (InsertedName j k)) (InsertedName (deep (InsertedName j k) v j) k)) (name_itself (InsertedName j k))
deep_itself (Var w j) v = ap (λ t. cond t (Var v (Var w j)) (Var w j)) (name_itself (Var w j))
deep_itself (Inner b j) v = ap (λ t. cond t (Var v (Inner b j)) (Inner b (deep (Inner b j) v j))) (name_itself (Inner b j))

-- the body b, entered after u uses of its unit inside the frames c
module _ (b : Number) (u : Clock) (c : Frames) where
  abbrev pub here : Frames
  here = Enter b u ∷ c

  -- neither this body nor a use since its entry stands in the name
  abbrev pub Clear : Name → Type 0
  Clear (WrittenName w s) = Unit {0}
  Clear (InsertedName j k) = Before b.unit u k × Clear j
  Clear (Var v j) = Clear j
  Clear (Inner a j) = Other b a × Clear j

  -- the name of something that the body may define
  abbrev pub IsNew : Name → Type 0
  IsNew (WrittenName w s) = ⊥
  IsNew (InsertedName j k) = NotYet b.unit u k
  IsNew (Var v j) = ⊥
  IsNew (Inner a j) = b ≡ a

  differs : (x y : Name) → IsNew x → (IsNew y → ⊥) → same_name y x ≡ false
  differs x y n h = false_from_ne_true (same_name y x) (λ e. h (subst IsNew (sym (name_told y x e)) n))

  not_other : (a : Number) → b ≡ a → Other b a → ⊥
  not_other a e h = let p : same_number b b ≡ false = subst (Other b) (sym e) h in let q : true ≡ false = sym (number_itself b) ∙ p in absurd cc

  not_both : (k : Number) → NotYet b.unit u k → Before b.unit u k → ⊥
  not_both k e h = let q : true ≡ false = sym h ∙ e in absurd cc

  pub deep_clear : (x : Name) (v : Number) → IsNew x → (j : Name) → Clear j → deep x v j ≡ j
  deep_clear x v n (WrittenName w s) h = ap (λ t. cond t (Var v x) (WrittenName w s)) (differs x (WrittenName w s) n (λ e. e))
  deep_clear x v n (InsertedName j k) h =
      ap (λ t. cond t (Var v x) (InsertedName (deep x v j) k)) (differs x (InsertedName j k) n (λ e. not_both k e h.0)) ∙ ap (λ (y : Name). InsertedName y k) (deep_clear x v n j h.1)
  deep_clear x v n (Var w j) h = ap (λ t. cond t (Var v x) (Var w j)) (differs x (Var w j) n (λ e. e))
  deep_clear x v n (Inner a j) h =
      ap (λ t. cond t (Var v x) (Inner a (deep x v j))) (differs x (Inner a j) n (λ e. not_other a e h.0)) ∙ ap (Inner a) (deep_clear x v n j h.1)

  clear_bound : (t : Bool) (v : Number) (j : Name) → Clear j → Clear (bound_as t v j)
  clear_bound true v j h = h
  clear_bound false v j h = h

  clear_entered : (t : Bool) (a : Number) (j : Name) → Other b a → Clear j → Clear (entered_as t a j)
  clear_entered true a j l h = (l, h)
  clear_entered false a j l h = h

  clear_defined : (o : Option (Number × BodyDefinitions)) (g : BodyDefinitions → Name) → ((es : BodyDefinitions) → Clear (g es)) → (ds : BodyDefinitions) → Clear (before_definition o g ds)
  clear_defined None g h ds = h ds
  clear_defined (Some d) g h ds = h d.1

  clear_inside : (fs : Frames) → Entered (Other b) fs → (i : Ident) (outer : BodyDefinitions → Name) → ((es : BodyDefinitions) → Clear (outer es)) → (ds : BodyDefinitions) → Clear (image_inside fs i outer ds)
  clear_inside [] l i outer h ds = h ds
  clear_inside (Bind x v ∷ fs) l i outer h ds = clear_bound (same_ident x i) v (image_inside fs i outer ds) (clear_inside fs l i outer h ds)
  clear_inside (Enter a z ∷ fs) l i outer h ds =
      clear_defined (find ds a i) (λ es. entered_as (is_older a z i) a (image_inside fs i outer es)) (λ es. clear_entered (is_older a z i) a (image_inside fs i outer es) l.0 (clear_inside fs l.1 i outer h es)) ds

  clear_outside : (ps : List UsePlace) → PlacesIn b.unit u (Other b) ps → (i : Ident) → Below b.unit u i → (ds : BodyDefinitions) → Clear (image_outside ps i ds)
  clear_outside ps s (Written w a) l ds = tt
  clear_outside ps s (Inserted i k) l ds = (l.0, clear_inside (around ps k) (s k l.0) i (image_outside ps i) (λ es. clear_outside ps s i l.1 es) ds)

  pub clear_image : (ps : List UsePlace) (ds : BodyDefinitions) → PlacesIn b.unit u (Other b) ps → (fs : Frames) → Entered (Other b) fs → (i : Ident) → Below b.unit u i → Clear (frame_image ps ds fs i)
  clear_image ps ds s fs l i h = clear_inside fs l i (image_outside ps i) (λ es. clear_outside ps s i h es) ds

  -- m are the bodies that were entered before
  module _ (ps : List UsePlace) (ds : BodyDefinitions) (m : Clock) (places : PlacesIn b.unit u (Other b) ps) (young : NotYet b.unit m b) (defs : DefinitionsBelow b.unit ds u m) (frames : FramesOk b.unit ds u m c) where
    pub earlier : (a : Number) → Before b.unit m a → Other b a
    earlier a h = false_from_ne_true (same_number b a) (λ e. let p : Before b.unit m b = subst (Before b.unit m) (sym (number_told b a e)) h in let q : true ≡ false = sym p ∙ young in absurd cc)

    pub outer_frames : Entered (Other b) c
    outer_frames = entered_more (Before b.unit m) (Other b) earlier c (frames_entered b.unit ds u m c frames)

    -- what an older use inserted is older
    pub older : (i : Ident) (k : Number) → Sits b u c ps (Inserted i k) → Before b.unit u k → Below b.unit u i
    older i k (inl g) l = let h = subst (Entered (Other b)) g.0 (places k l) in absurd (not_other b refl h.0)
    older i k (inr g) l = g.1

    -- what is below the body's definitions
    abbrev pub raw : Ident → BodyDefinitions → Name
    raw i es = entered_as (is_older b u i) b (image_inside c i (image_outside ps i) es)

    raw_new : (i : Ident) → IsNew (raw i ds)
    raw_new (Written w s) = refl
    raw_new (Inserted i k) = go (is_before b.unit u k) refl
      where
        go : (t : Bool) → is_before b.unit u k ≡ t → IsNew (entered_as t b (image_inside c (Inserted i k) (image_outside ps (Inserted i k)) ds))
        go true e = refl
        go false e = subst IsNew (sym (inside_new b.unit ds u m defs c frames i k e (image_outside ps (Inserted i k)))) e

    pub new_image : (x : Ident) → find ds b x ≡ None → IsNew (frame_image ps ds here x)
    new_image x e = subst (λ o. IsNew (before_definition o (raw x) ds)) (sym e) (raw_new x)
