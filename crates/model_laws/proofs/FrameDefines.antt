-- The law of one definition, in a body whose frames are well made: each image reads as deep substitution makes it.
use Rattle.std.proofs.Common.{◌≡◌, inl, inr, List, [], ◌∷◌, Bool, true, false, cond, Option, Some, None, refl, sym, ap, ◌∙◌, subst}
use Rattle.std.specs.Prelude.{◌&&◌}
use Rattle.scheme_model.specs.Identifiers.{Number, Name, Inserted as InsertedName, Inner, Var, same_name}
use Rattle.scheme_model.specs.Ident.{Ident, Written, Inserted, same_ident}
use Rattle.scheme_model.specs.Substitution.{Clock, deep}
use Rattle.scheme_model.specs.ScopedExpansion.{Bind, Enter, Frames, BodyDefinitions, UsePlace, around, find}
use Rattle.scheme_model.specs.FrameImages.{is_before, entered_as, before_definition, image_inside, image_outside, frame_image}
use Rattle.scheme_model.proofs.IdentLaws.{number_itself, ident_told, same_turned}
use Rattle.scheme_model.proofs.OpenBodies.{Leq, Before, NotYet, Entered, Below, PlacesIn, DefinitionsBelow, FramesOk, Other, Sits}
use Rattle.scheme_model.proofs.Clocks.{leq_itself, leq_then, before_more}
use Rattle.model_laws.proofs.FrameNames.{same_frame_image}
use Rattle.model_laws.proofs.FrameTimes.{SameFind, image_definitions, definitions_same, inside_new}
use Rattle.model_laws.proofs.FrameBodies.{here, deep_itself, deep_clear, clear_image, earlier, outer_frames, older, raw, new_image}

module _ (b : Number) (u : Clock) (c : Frames) (ps : List UsePlace) (ds : BodyDefinitions) (m : Clock) (places : PlacesIn b.unit u (Other b) ps) (young : NotYet b.unit m b) (defs : DefinitionsBelow b.unit ds u m) (frames : FramesOk b.unit ds u m c) (x : Ident) (v : Number) (free : find ds b x ≡ None) where
  abbrev X : Name
  X = frame_image ps ds (here b u c) x

  abbrev pub later : BodyDefinitions
  later = record { body = b; ident = x; binder = v } ∷ ds

  -- below the body's definitions
  abbrev below : Ident → BodyDefinitions → Name
  below i es = raw b u c ps ds m places young defs frames i es

  pub same_elsewhere : SameFind (Other b) ds later
  same_elsewhere a i l = sym (ap (λ t. cond (t && same_ident x i) (Some (v, ds)) (find ds a i)) l)

  pub same_earlier : SameFind (Before b.unit m) ds later
  same_earlier a i l = same_elsewhere a i (earlier b u c ps ds m places young defs frames a l)

  defs_later : DefinitionsBelow b.unit later u m
  defs_later = definitions_same b.unit ds later u m same_earlier defs

  frames_then : (fs : Frames) (w n : Clock) → Leq n m → FramesOk b.unit ds w n fs → FramesOk b.unit later w n fs
  frames_then [] w n le h = tt
  frames_then (Bind y l ∷ fs) w n le h = (h.0, frames_then fs w n le h.1)
  frames_then (Enter a z ∷ fs) w n le h =
      let less : Leq h.0 m = leq_then h.0 n m h.4 le in
      (h.0, h.1, h.2, h.3, h.4, h.5, definitions_same b.unit ds later z h.0 (λ a' i l. same_earlier a' i (before_more b.unit h.0 m less a' l)) h.6, frames_then fs z h.0 less h.7)

  pub found_later : (i : Ident) (t : Bool) → same_ident x i ≡ t → find later b i ≡ cond t (Some (v, ds)) (find ds b i)
  found_later i t e = λ j. cond (number_itself b j && e j) (Some (v, ds)) (find ds b i)

  -- where this body isn't around, a name stays
  pub far : (fs : Frames) → Entered (Other b) fs → (i : Ident) → Below b.unit u i → deep X v (frame_image ps ds fs i) ≡ frame_image ps later fs i
  far fs l i h =
      deep_clear b u c X v (new_image b u c ps ds m places young defs frames x free) (frame_image ps ds fs i) (clear_image b u c ps ds places fs l i h)
      ∙ image_definitions b.unit u (Other b) ps ds later places same_elsewhere fs l i h

  abbrev outside_here : Entered (Other b) c
  outside_here = outer_frames b u c ps ds m places young defs frames

  found_step : (o : Option (Number × BodyDefinitions)) (g : BodyDefinitions → Name) → same_name (before_definition o g ds) X ≡ false → (same_name (g ds) X ≡ false → deep X v (g ds) ≡ g later) → deep X v (before_definition o g ds) ≡ before_definition o g later
  found_step None g d h = h d
  found_step (Some e) g d h = ap (λ t. cond t (Var v X) (Var e.0 (g e.1))) d

  -- what is neither x nor defined
  raw_step : (i : Ident) (k : Number) (t : Bool) → is_before b.unit u k ≡ t → (Before b.unit u k → Below b.unit u i) → deep X v (frame_image ps ds (around ps k) i) ≡ frame_image ps later (around ps k) i
      → same_name (entered_as t b (image_inside c (Inserted i k) (image_outside ps (Inserted i k)) ds)) X ≡ false
      → deep X v (entered_as t b (image_inside c (Inserted i k) (image_outside ps (Inserted i k)) ds)) ≡ entered_as t b (image_inside c (Inserted i k) (image_outside ps (Inserted i k)) later)
  raw_step i k true e l ih d =
      let h : Below b.unit u (Inserted i k) = (e, l e) in
      ap (λ t. cond t (Var v X) (Inner b (deep X v (frame_image ps ds c (Inserted i k))))) d ∙ ap (Inner b) (far c outside_here (Inserted i k) h)
  raw_step i k false e l ih d =
      let p = inside_new b.unit ds u m defs c frames i k e (image_outside ps (Inserted i k)) in
      let q = inside_new b.unit later u m defs_later c (frames_then c u m (leq_itself m) frames) i k e (image_outside ps (Inserted i k)) in
      ap (deep X v) p
      ∙ ap (λ t. cond t (Var v X) (InsertedName (deep X v (frame_image ps ds (around ps k) i)) k)) (ap (λ (y : Name). same_name y X) (sym p) ∙ d)
      ∙ ap (λ (y : Name). InsertedName y k) ih
      ∙ sym q

  inner : (k : Number) (i : Ident) → Sits b u c ps (Inserted i k) → (Sits b u c ps i → deep X v (frame_image ps ds (here b u c) i) ≡ frame_image ps later (here b u c) i) → deep X v (frame_image ps ds (around ps k) i) ≡ frame_image ps later (around ps k) i
  inner k i (inl g) ih = subst (λ (fs : Frames). deep X v (frame_image ps ds fs i) ≡ frame_image ps later fs i) (sym g.0) (ih g.1)
  inner k i (inr g) ih = far (around ps k) g.0 i g.1

  -- the identifier that is defined
  itself_defined : (i : Ident) → same_ident x i ≡ true → deep X v (frame_image ps ds (here b u c) i) ≡ frame_image ps later (here b u c) i
  itself_defined i e =
      ap (λ (y : Ident). deep X v (frame_image ps ds (here b u c) y)) (sym (ident_told x i e)) ∙ deep_itself X v
      ∙ ap (λ o. Var v (before_definition o (below x) ds)) free
      ∙ ap (λ (y : Ident). Var v (below y ds)) (ident_told x i e)
      ∙ sym (ap (λ o. before_definition o (below i) later) (found_later i true e))

  told_apart : (i : Ident) → same_ident x i ≡ false → same_name (frame_image ps ds (here b u c) i) X ≡ false
  told_apart i e = same_frame_image ps ds (here b u c) i x ∙ same_turned i x ∙ e

  pub defined_image : (i : Ident) → Sits b u c ps i → deep X v (frame_image ps ds (here b u c) i) ≡ frame_image ps later (here b u c) i
  defined_image (Written w s) f = go (same_ident x (Written w s)) refl
    where
      go : (t : Bool) → same_ident x (Written w s) ≡ t → deep X v (frame_image ps ds (here b u c) (Written w s)) ≡ frame_image ps later (here b u c) (Written w s)
      go true e = itself_defined (Written w s) e
      go false e =
          found_step (find ds b (Written w s)) (below (Written w s)) (told_apart (Written w s) e) (λ d.
          ap (λ t. cond t (Var v X) (Inner b (deep X v (frame_image ps ds c (Written w s))))) d ∙ ap (Inner b) (far c outside_here (Written w s) tt))
          ∙ sym (ap (λ o. before_definition o (below (Written w s)) later) (found_later (Written w s) false e))
  defined_image (Inserted i k) f = go (same_ident x (Inserted i k)) refl (inner k i f (λ g. defined_image i g))
    where
      go : (t : Bool) → same_ident x (Inserted i k) ≡ t → deep X v (frame_image ps ds (around ps k) i) ≡ frame_image ps later (around ps k) i → deep X v (frame_image ps ds (here b u c) (Inserted i k)) ≡ frame_image ps later (here b u c) (Inserted i k)
      go true e ih = itself_defined (Inserted i k) e
      go false e ih =
          found_step (find ds b (Inserted i k)) (below (Inserted i k)) (told_apart (Inserted i k) e) (raw_step i k (is_before b.unit u k) refl (older b u c ps ds m places young defs frames i k f) ih)
          ∙ sym (ap (λ o. before_definition o (below (Inserted i k)) later) (found_later (Inserted i k) false e))
