-- A look-up that comes to a body's definition of x: it asks x by names exactly there, and answers x's number once x is added.
use Rattle.std.proofs.Common.{◌≡◌, ◌⊎◌, inl, inr, List, [], ◌∷◌, Bool, true, false, cond, Option, Some, None, refl, sym, ap, ◌∙◌, subst}
use Rattle.std.specs.Prelude.{◌&&◌, ◌||◌}
use Rattle.std.proofs.lemmas.Bool.{false_from_ne_true}
use Rattle.scheme_model.specs.Identifiers.{Number, same_number, Name, Written as WrittenName, Inserted as InsertedName, Inner, Var, same_name}
use Rattle.scheme_model.specs.Ident.{Ident, Written, Inserted, same_ident, erase}
use Rattle.scheme_model.specs.Meaning.{Meaning, Local}
use Rattle.scheme_model.specs.Order.{is_some}
use Rattle.scheme_model.specs.Substitution.{Table, Entries, Clock, asks}
use Rattle.scheme_model.specs.Scopes.{own_of, given_or}
use Rattle.scheme_model.specs.ScopedExpansion.{Bind, Enter, Frames, BodyDefinitions, UsePlace, around, find, defined_as, means_inside, means_outside}
use Rattle.scheme_model.specs.FrameImages.{is_before, is_older, entered_as, before_definition, image_inside, image_outside, frame_image}
use Rattle.scheme_model.proofs.OpenBodies.{Leq, Before, NotYet, Entered, Below, PlacesIn, DefinitionsBelow, FramesOk, Other, Sits}
use Rattle.scheme_model.proofs.IdentLaws.{number_itself, ident_told, name_told, name_itself, same_turned}
use Rattle.scheme_model.proofs.Clocks.{leq_itself, leq_then, before_more, not_yet_less}
use Rattle.model_laws.proofs.FrameNames.{erase_frame_image, same_frame_image}
use Rattle.model_laws.proofs.FrameTimes.{not_below, none_below, inside_new}
use Rattle.model_laws.proofs.FrameBodies.{here, Clear, clear_image, earlier, outer_frames, older, raw}

-- ---- coming to x in body b

abbrev pub comes_inside : Number → Ident → BodyDefinitions → Frames → Ident → Bool → Bool
comes_inside b x ds [] i outer = outer
comes_inside b x ds (Bind y v ∷ fs) i outer = cond (same_ident y i) false (comes_inside b x ds fs i outer)
comes_inside b x ds (Enter a u ∷ fs) i outer = cond (same_number b a && same_ident x i) true (cond (is_some (find ds a i)) false (comes_inside b x ds fs i outer))

abbrev pub comes_outside : Number → Ident → List UsePlace → BodyDefinitions → Ident → Bool
comes_outside b x ps ds (Written u s) = false
comes_outside b x ps ds (Inserted i k) = comes_inside b x ds (around ps k) i (comes_outside b x ps ds i)

abbrev pub comes_to : Number → Ident → List UsePlace → BodyDefinitions → Frames → Ident → Bool
comes_to b x ps ds fs i = comes_inside b x ds fs i (comes_outside b x ps ds i)

both_false : (t : Bool) → cond t false false ≡ false
both_false true = refl
both_false false = refl

-- ---- by names

module _ (b : Number) (u : Clock) (c : Frames) (ps : List UsePlace) (ds : BodyDefinitions) (m : Clock) (places : PlacesIn b.unit u (Other b) ps) (young : NotYet b.unit m b) (defs : DefinitionsBelow b.unit ds u m) (frames : FramesOk b.unit ds u m c) (x : Ident) where
  abbrev X : Name
  X = frame_image ps ds (here b u c) x

  abbrev below : Ident → BodyDefinitions → Name
  below i es = raw b u c ps ds m places young defs frames i es

  clear_old : (j : Name) → Clear b u c j → is_older b u (erase j) ≡ true
  clear_old (WrittenName w s) h = refl
  clear_old (InsertedName j k) h = h.0
  clear_old (Var w j) h = clear_old j h
  clear_old (Inner a j) h = clear_old j h.1

  not_clear : (es : BodyDefinitions) → Clear b u c (below x es) → ⊥
  not_clear es h = go (is_older b u x) refl h
    where
      go : (t : Bool) → is_older b u x ≡ t → Clear b u c (entered_as t b (image_inside c x (image_outside ps x) es)) → ⊥
      go true e h = let q : true ≡ false = sym (number_itself b) ∙ h.0 in absurd cc
      go false e h =
          let q = ap (is_older b u) (sym (erase_frame_image ps es c x)) ∙ clear_old (image_inside c x (image_outside ps x) es) h in
          let z : true ≡ false = sym q ∙ e in absurd cc

  foreign : (j : Name) → Clear b u c j → same_name j X ≡ false
  foreign j h = false_from_ne_true (same_name j X) (λ e. go (find ds b x) (subst (Clear b u c) (name_told j X e) h))
    where
      go : (o : Option (Number × BodyDefinitions)) → Clear b u c (before_definition o (below x) ds) → ⊥
      go None k = not_clear ds k
      go (Some d) k = not_clear d.1 k

  asks_foreign : (j : Name) → Clear b u c j → asks X j ≡ false
  asks_foreign (WrittenName w s) h = foreign (WrittenName w s) h
  asks_foreign (InsertedName j k) h = let p = foreign (InsertedName j k) h in let q = asks_foreign j h.1 in λ i. p i || q i
  asks_foreign (Var w j) h = foreign (Var w j) h
  asks_foreign (Inner a j) h = let p = foreign (Inner a j) h in let q = asks_foreign j h.1 in λ i. p i || q i

  asks_itself : (j : Name) → asks j j ≡ true
  asks_itself (WrittenName w s) = name_itself (WrittenName w s)
  asks_itself (InsertedName j k) = ap (λ t. t || asks (InsertedName j k) j) (name_itself (InsertedName j k))
  asks_itself (Var w j) = name_itself (Var w j)
  asks_itself (Inner a j) = ap (λ t. t || asks (Inner a j) j) (name_itself (Inner a j))

  -- where this body isn't around
  inside_far : (fs : Frames) → Entered (Other b) fs → (i : Ident) (outer : Bool) → outer ≡ false → comes_inside b x ds fs i outer ≡ false
  inside_far [] l i outer e = e
  inside_far (Bind y w ∷ fs) l i outer e = ap (cond (same_ident y i) false) (inside_far fs l i outer e) ∙ both_false (same_ident y i)
  inside_far (Enter a w ∷ fs) l i outer e =
      let p = l.0 in let q = inside_far fs l.1 i outer e in
      (λ j. cond (p j && same_ident x i) true (cond (is_some (find ds a i)) false (q j))) ∙ both_false (is_some (find ds a i))

  pub outside_far : (i : Ident) → Below b.unit u i → comes_outside b x ps ds i ≡ false
  outside_far (Written w s) l = refl
  outside_far (Inserted i k) l = inside_far (around ps k) (places k l.0) i (comes_outside b x ps ds i) (outside_far i l.1)

  -- a new identifier passes through older frames
  inside_young : (z n : Clock) → Leq n m → DefinitionsBelow b.unit ds z n → (fs : Frames) → FramesOk b.unit ds z n fs → (i : Ident) (k : Number) → NotYet b.unit z k → (outer : Bool) → comes_inside b x ds fs (Inserted i k) outer ≡ outer
  inside_young z n le df [] h i k e outer = refl
  inside_young z n le df (Bind y v ∷ fs) h i k e outer = ap (λ t. cond t false (comes_inside b x ds fs (Inserted i k) outer)) (not_below b.unit z k i y e h.0) ∙ inside_young z n le df fs h.1 i k e outer
  inside_young z n le df (Enter a y ∷ fs) h i k e outer =
      let none : find ds a (Inserted i k) ≡ None = none_below b.unit z k i (find ds a (Inserted i k)) e (df a (Inserted i k) h.2) in
      let p = earlier b u c ps ds m places young defs frames a (before_more b.unit n m le a h.2) in
      (λ j. cond (p j && same_ident x (Inserted i k)) true (cond (is_some (none j)) false (comes_inside b x ds fs (Inserted i k) outer)))
      ∙ inside_young y h.0 (leq_then h.0 n m h.4 le) h.6 fs h.7 i k (not_yet_less b.unit y z h.3 k e) outer

  -- what is neither x nor defined
  raw_asks : (i : Ident) (k : Number) (t : Bool) → is_before b.unit u k ≡ t → (Before b.unit u k → Below b.unit u i) → asks X (frame_image ps ds (around ps k) i) ≡ comes_inside b x ds (around ps k) i (comes_outside b x ps ds i)
      → same_name (entered_as t b (image_inside c (Inserted i k) (image_outside ps (Inserted i k)) ds)) X ≡ false
      → asks X (entered_as t b (image_inside c (Inserted i k) (image_outside ps (Inserted i k)) ds)) ≡ comes_inside b x ds c (Inserted i k) (comes_outside b x ps ds (Inserted i k))
  raw_asks i k true e l ih d =
      let h : Below b.unit u (Inserted i k) = (e, l e) in
      let f = outer_frames b u c ps ds m places young defs frames in
      let q = asks_foreign (frame_image ps ds c (Inserted i k)) (clear_image b u c ps ds places c f (Inserted i k) h) in
      (λ j. d j || q j) ∙ sym (inside_far c f (Inserted i k) (comes_outside b x ps ds (Inserted i k)) (outside_far (Inserted i k) h))
  raw_asks i k false e l ih d =
      let p = inside_new b.unit ds u m defs c frames i k e (image_outside ps (Inserted i k)) in
      ap (asks X) p
      ∙ ap (λ t. t || asks X (frame_image ps ds (around ps k) i)) (ap (λ (y : Name). same_name y X) (sym p) ∙ d)
      ∙ ih
      ∙ sym (inside_young u m (leq_itself m) defs c frames i k e (comes_outside b x ps ds (Inserted i k)))

  -- what is not x
  found_asks : (i : Ident) (o : Option (Number × BodyDefinitions)) → same_name (before_definition o (below i) ds) X ≡ false → (same_name (below i ds) X ≡ false → asks X (below i ds) ≡ comes_inside b x ds c i (comes_outside b x ps ds i))
      → asks X (before_definition o (below i) ds) ≡ cond (is_some o) false (comes_inside b x ds c i (comes_outside b x ps ds i))
  found_asks i None d h = h d
  found_asks i (Some e) d h = d

  self_asks : (i : Ident) (t : Bool) → same_ident x i ≡ t → comes_to b x ps ds (here b u c) i ≡ cond t true (cond (is_some (find ds b i)) false (comes_inside b x ds c i (comes_outside b x ps ds i)))
  self_asks i t e = λ j. cond (number_itself b j && e j) true (cond (is_some (find ds b i)) false (comes_inside b x ds c i (comes_outside b x ps ds i)))

  pub asks_far : (fs : Frames) → Entered (Other b) fs → (i : Ident) → Below b.unit u i → asks X (frame_image ps ds fs i) ≡ comes_to b x ps ds fs i
  asks_far fs l i h = asks_foreign (frame_image ps ds fs i) (clear_image b u c ps ds places fs l i h) ∙ sym (inside_far fs l i (comes_outside b x ps ds i) (outside_far i h))

  inner_asks : (k : Number) (i : Ident) → Sits b u c ps (Inserted i k) → (Sits b u c ps i → asks X (frame_image ps ds (here b u c) i) ≡ comes_to b x ps ds (here b u c) i) → asks X (frame_image ps ds (around ps k) i) ≡ comes_to b x ps ds (around ps k) i
  inner_asks k i (inl g) ih = subst (λ (fs : Frames). asks X (frame_image ps ds fs i) ≡ comes_to b x ps ds fs i) (sym g.0) (ih g.1)
  inner_asks k i (inr g) ih = asks_far (around ps k) g.0 i g.1

  itself_asks : (i : Ident) → same_ident x i ≡ true → asks X (frame_image ps ds (here b u c) i) ≡ comes_to b x ps ds (here b u c) i
  itself_asks i e = ap (λ (y : Ident). asks X (frame_image ps ds (here b u c) y)) (sym (ident_told x i e)) ∙ asks_itself X ∙ sym (self_asks i true e)

  apart_from : (i : Ident) → same_ident x i ≡ false → same_name (frame_image ps ds (here b u c) i) X ≡ false
  apart_from i e = same_frame_image ps ds (here b u c) i x ∙ same_turned i x ∙ e

  -- To ask x by names is to come to x in the scopes.
  pub asks_image : (i : Ident) → Sits b u c ps i → asks X (frame_image ps ds (here b u c) i) ≡ comes_to b x ps ds (here b u c) i
  asks_image (Written w s) f = go (same_ident x (Written w s)) refl
    where
      go : (t : Bool) → same_ident x (Written w s) ≡ t → asks X (frame_image ps ds (here b u c) (Written w s)) ≡ comes_to b x ps ds (here b u c) (Written w s)
      go true e = itself_asks (Written w s) e
      go false e =
          let o = outer_frames b u c ps ds m places young defs frames in
          let q = asks_foreign (frame_image ps ds c (Written w s)) (clear_image b u c ps ds places c o (Written w s) tt) in
          found_asks (Written w s) (find ds b (Written w s)) (apart_from (Written w s) e) (λ d. (λ j. d j || q j) ∙ sym (inside_far c o (Written w s) false refl)) ∙ sym (self_asks (Written w s) false e)
  asks_image (Inserted i k) f = go (same_ident x (Inserted i k)) refl (inner_asks k i f (λ g. asks_image i g))
    where
      go : (t : Bool) → same_ident x (Inserted i k) ≡ t → asks X (frame_image ps ds (around ps k) i) ≡ comes_to b x ps ds (around ps k) i → asks X (frame_image ps ds (here b u c) (Inserted i k)) ≡ comes_to b x ps ds (here b u c) (Inserted i k)
      go true e ih = itself_asks (Inserted i k) e
      go false e ih = found_asks (Inserted i k) (find ds b (Inserted i k)) (apart_from (Inserted i k) e) (raw_asks i k (is_before b.unit u k) refl (older b u c ps ds m places young defs frames i k f) ih) ∙ sym (self_asks (Inserted i k) false e)

-- ---- by scopes

module _ (b : Number) (x : Ident) (v : Number) (ds : BodyDefinitions) where
  abbrev pub added : BodyDefinitions
  added = record { body = b; ident = x; binder = v } ∷ ds

  means_inside_with : (fs : Frames) (i : Ident) (after before : Meaning) (outer : Bool) → after ≡ cond outer (Local v) before → means_inside added fs i after ≡ cond (comes_inside b x ds fs i outer) (Local v) (means_inside ds fs i before)
  means_inside_with [] i after before outer e = e
  means_inside_with (Bind y w ∷ fs) i after before outer e = go (same_ident y i) (means_inside_with fs i after before outer e)
    where
      go : (t : Bool) → means_inside added fs i after ≡ cond (comes_inside b x ds fs i outer) (Local v) (means_inside ds fs i before) → cond t (Local w) (means_inside added fs i after) ≡ cond (cond t false (comes_inside b x ds fs i outer)) (Local v) (cond t (Local w) (means_inside ds fs i before))
      go true h = refl
      go false h = h
  means_inside_with (Enter a u ∷ fs) i after before outer e = go (same_number b a && same_ident x i) (find ds a i) (means_inside_with fs i after before outer e)
    where
      go : (t : Bool) (o : Option (Number × BodyDefinitions)) → means_inside added fs i after ≡ cond (comes_inside b x ds fs i outer) (Local v) (means_inside ds fs i before)
          → defined_as (cond t (Some (v, ds)) o) (means_inside added fs i after) ≡ cond (cond t true (cond (is_some o) false (comes_inside b x ds fs i outer))) (Local v) (defined_as o (means_inside ds fs i before))
      go true o h = refl
      go false None h = h
      go false (Some d) h = refl

  -- what units define comes to nothing here
  abbrev pub Unasked : Table → Entries → List UsePlace → Type 0
  Unasked table entry ps = (k : Number) (i : Ident) → (own_of table entry k.unit (Inserted i k) ≡ None) ⊎ (comes_outside b x ps ds (Inserted i k) ≡ false)

  module _ (table : Table) (entry : Entries) (ps : List UsePlace) (unasked : Unasked table entry ps) where
    means_outside_with : (i : Ident) → means_outside table entry ps added i ≡ cond (comes_outside b x ps ds i) (Local v) (means_outside table entry ps ds i)
    means_outside_with (Written w s) = refl
    means_outside_with (Inserted i k) =
        go (own_of table entry k.unit (Inserted i k)) (comes_outside b x ps ds (Inserted i k)) (unasked k i) (means_inside_with (around ps k) i (means_outside table entry ps added i) (means_outside table entry ps ds i) (comes_outside b x ps ds i) (means_outside_with i))
      where
        go : (o : Option Meaning) (t : Bool) → (o ≡ None) ⊎ (t ≡ false) → means_inside added (around ps k) i (means_outside table entry ps added i) ≡ cond t (Local v) (means_inside ds (around ps k) i (means_outside table entry ps ds i))
            → given_or o (means_inside added (around ps k) i (means_outside table entry ps added i)) ≡ cond t (Local v) (given_or o (means_inside ds (around ps k) i (means_outside table entry ps ds i)))
        go None t e h = h
        go (Some y) false e h = refl
        go (Some y) true (inl e) h = absurd cc
        go (Some y) true (inr e) h = absurd cc

    -- looked up once more with x added, it answers x's number where it comes to x
    pub means_with : (fs : Frames) (i : Ident) → means_inside added fs i (means_outside table entry ps added i) ≡ cond (comes_to b x ps ds fs i) (Local v) (means_inside ds fs i (means_outside table entry ps ds i))
    means_with fs i = means_inside_with fs i (means_outside table entry ps added i) (means_outside table entry ps ds i) (comes_outside b x ps ds i) (means_outside_with i)
