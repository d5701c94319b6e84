-- A binder, the entry of a body, and a macro use: what they make of images, and that what holds of a state stays.
use Rattle.std.proofs.Common.{◌≡◌, suc, ◌⊎◌, inl, inr, [], ◌∷◌, Bool, true, false, cond, Some, None, refl, sym, ap, ◌∙◌, subst}
use Rattle.std.specs.Prelude.{◌&&◌}
use Rattle.std.proofs.lemmas.Bool.{false_from_ne_true}
use Rattle.scheme_model.specs.Identifiers.{Number, same_number, Name, Inserted as InsertedName, Inner, Var}
use Rattle.scheme_model.specs.Ident.{Ident, Written, Inserted, same_ident}
use Rattle.scheme_model.specs.Substitution.{Clock, at_form, is_plain, shallow}
use Rattle.scheme_model.specs.ScopedExpansion.{Bind, Enter, Frames, BodyDefinition, BodyDefinitions, ScopedState, around, find, next_number}
use Rattle.scheme_model.specs.FrameImages.{is_before, is_older, bound_as, entered_as, before_definition, image_inside, image_outside, frame_image}
use Rattle.scheme_model.proofs.OpenBodies.{Before as Counted, Below as BelowCounted, Entered, Leq, NotYet}
use Rattle.scheme_model.proofs.IdentLaws.{ident_told, number_told, number_itself, same_turned}
use Rattle.scheme_model.proofs.Clocks.{leq_itself, leq_counted, apart}
use Rattle.model_laws.proofs.FrameNames.{same_frame_image}
use Rattle.model_laws.proofs.FrameTimes.{entered_more, below_more as counted_more, SamePlaces, outside_places, image_places, inside_new}
use Rattle.model_laws.proofs.FrameEras.{Era, Before, Below, before_more, below_more, below_counted}
use Rattle.model_laws.proofs.FrameAsks.{AllOf, all_of_more, BindersCounted}
use Rattle.model_laws.proofs.FrameRoots.{stands_then}
use Rattle.model_laws.proofs.FrameStates.{names, FineState, Grows, Stands, binders_more, macro_more, next_new, next_old}

module _ (w : Era) where
  -- ---- a binder

  abbrev pub bound_state : ScopedState → ScopedState
  bound_state s = record s { locals = at_form s.form suc s.locals }

  pub bind_names : (s : ScopedState) (fs : Frames) (x i : Ident) → shallow (names s fs x) (next_number s s.locals) (names s fs i) ≡ names (bound_state s) (Bind x (next_number s s.locals) ∷ fs) i
  bind_names s fs x i =
      ap (λ t. cond t (Var (next_number s s.locals) (names s fs x)) (names s fs i)) (same_frame_image s.places s.definitions fs i x ∙ same_turned i x) ∙ go (same_ident x i) refl
    where
      go : (t : Bool) → same_ident x i ≡ t → cond t (Var (next_number s s.locals) (names s fs x)) (names s fs i) ≡ bound_as t (next_number s s.locals) (names s fs i)
      go true e = ap (λ (y : Ident). Var (next_number s s.locals) (names s fs y)) (ident_told x i e)
      go false e = refl

  pub bind_stands : (s : ScopedState) → FineState w s → (fs : Frames) (x : Ident) → Stands w s fs → Below w s.uses x → Stands w (bound_state s) (Bind x (next_number s s.locals) ∷ fs)
  bind_stands s f fs x h l = ((below_counted w s.uses x l, h.0), (next_old w s f s.locals, binders_more w s.locals (at_form s.form suc s.locals) (leq_counted s.form s.locals) fs h.1))

  -- ---- the entry of a body

  abbrev pub entered_state : ScopedState → ScopedState
  entered_state s = record s { bodies = at_form s.form suc s.bodies }

  -- nothing is defined yet in a body that isn't entered
  pub find_none : (n : Clock) (b : Number) (i : Ident) → NotYet w.unit n b → (ds : BodyDefinitions) → AllOf (λ (d : BodyDefinition). Before w n d.body) ds → find ds b i ≡ None
  find_none n b i e [] h = refl
  find_none n b i e (d ∷ ds) h = ap (λ t. cond (t && same_ident d.ident i) (Some (d.binder, ds)) (find ds b i)) (apart w.unit n d.body b h.0.0 e) ∙ find_none n b i e ds h.1

  older_yes : (u : Clock) (b : Number) → b.unit ≡ w.unit → (i : Ident) → Below w u i → is_older b u i ≡ true
  older_yes u b e (Written v s) l = refl
  older_yes u b e (Inserted i k) l = ap (λ v. is_before v u k) e ∙ l.0.0

  pub enter_names : (s : ScopedState) → FineState w s → (fs : Frames) (i : Ident) → Below w s.uses i → Inner (next_number s s.bodies) (names s fs i) ≡ names (entered_state s) (Enter (next_number s s.bodies) s.uses ∷ fs) i
  enter_names s f fs i l =
      sym (ap (λ o. before_definition o (λ es. entered_as (is_older (next_number s s.bodies) s.uses i) (next_number s s.bodies) (image_inside fs i (image_outside s.places i) es)) s.definitions) (find_none s.bodies (next_number s s.bodies) i (next_new w s f s.bodies) s.definitions f.1.bodies)
      ∙ ap (λ t. entered_as t (next_number s s.bodies) (names s fs i)) (older_yes s.uses (next_number s s.bodies) f.0 i l))

  bodies_more : (n m : Clock) → Leq n m → (ds : BodyDefinitions) → AllOf (λ (d : BodyDefinition). Before w n d.body) ds → AllOf (λ (d : BodyDefinition). Before w m d.body) ds
  bodies_more n m le ds h = all_of_more (λ (d : BodyDefinition). Before w n d.body) (λ (d : BodyDefinition). Before w m d.body) (λ d e. before_more w n m le d.body e) ds h

  pub enter_fine : (s : ScopedState) → FineState w s → FineState w (entered_state s)
  enter_fine s f = (
    f.0,
    record {
      definitions = λ b i l. go b i (is_before w.unit s.bodies b) refl;
      bodies = bodies_more s.bodies (at_form s.form suc s.bodies) (leq_counted s.form s.bodies) s.definitions f.1.bodies;
      idents = f.1.idents;
      entered = λ k. entered_more (Before w s.bodies) (Before w (at_form s.form suc s.bodies)) (before_more w s.bodies (at_form s.form suc s.bodies) (leq_counted s.form s.bodies)) (around s.places k) (f.1.entered k);
      macros = macro_more w s.locals s.uses s.bodies s.locals s.uses (at_form s.form suc s.bodies) (leq_itself s.locals) (leq_itself s.uses) (leq_counted s.form s.bodies) s.macros f.1.macros;
      stands = f.1.stands;
      outside = f.1.outside;
      binders = f.1.binders;
      places = f.1.places;
      entries = f.1.entries;
    },
  )
    where
      go : (b : Number) (i : Ident) (t : Bool) → is_before w.unit s.bodies b ≡ t → (find s.definitions b i ≡ None) ⊎ BelowCounted w.unit s.uses i
      go b i true e = f.1.definitions b i e
      go b i false e = inl (find_none s.bodies b i e s.definitions f.1.bodies)

  pub enter_grows : (s : ScopedState) → Grows w s (entered_state s)
  enter_grows s = record { uses = leq_itself s.uses; bodies = leq_counted s.form s.bodies; locals = leq_itself s.locals; places = λ k h. refl; definitions = λ b i h. refl }

  -- ---- a macro use

  abbrev pub used_state : Frames → ScopedState → ScopedState
  used_state ms s = record s { uses = at_form s.form suc s.uses; places = record { use_number = next_number s s.uses; frames = ms } ∷ s.places }

  pub around_old : (s : ScopedState) → FineState w s → (ms : Frames) → SamePlaces w.unit s.uses s.places (used_state ms s).places
  around_old s f ms k l =
      sym (ap (λ t. cond t ms (around s.places k)) (false_from_ne_true (same_number (next_number s s.uses) k) (λ e. let p : Counted w.unit s.uses (next_number s s.uses) = subst (Counted w.unit s.uses) (sym (number_told (next_number s s.uses) k e)) l in let q : true ≡ false = sym p ∙ next_new w s f s.uses in absurd cc)))

  pub around_new : (s : ScopedState) (ms : Frames) → around (used_state ms s).places (next_number s s.uses) ≡ ms
  around_new s ms = ap (λ t. cond t ms (around s.places (next_number s s.uses))) (number_itself (next_number s s.uses))

  pub use_grows : (s : ScopedState) → FineState w s → (ms : Frames) → Grows w s (used_state ms s)
  use_grows s f ms = record { uses = leq_counted s.form s.uses; bodies = leq_itself s.bodies; locals = leq_itself s.locals; places = around_old s f ms; definitions = λ b i h. refl }

  pub use_fine : (s : ScopedState) → FineState w s → (ms : Frames) → Entered (Before w s.bodies) ms → BindersCounted w s.locals ms → FineState w (used_state ms s)
  use_fine s f ms e c = (
    f.0,
    record {
      definitions = λ b i l. below_later i (f.1.definitions b i l);
      bodies = f.1.bodies;
      idents = all_of_more (λ (d : BodyDefinition). Below w s.uses d.ident) (λ (d : BodyDefinition). Below w (at_form s.form suc s.uses) d.ident) (λ d. below_more w s.uses (at_form s.form suc s.uses) (leq_counted s.form s.uses) d.ident) s.definitions f.1.idents;
      entered = λ k. at_use k (Entered (Before w s.bodies)) e (f.1.entered k);
      macros = macro_more w s.locals s.uses s.bodies s.locals (at_form s.form suc s.uses) s.bodies (leq_itself s.locals) (leq_counted s.form s.uses) (leq_itself s.bodies) s.macros f.1.macros;
      stands = stands_then w s.uses (at_form s.form suc s.uses) s.places (used_state ms s).places (leq_counted s.form s.uses) (around_old s f ms) s.macros f.1.stands;
      outside = λ v i h. let q = f.1.outside v i h in (below_more w s.uses (at_form s.form suc s.uses) (leq_counted s.form s.uses) i q.0, plain_later i q.0 q.1);
      binders = f.1.binders;
      places = λ k. at_use k (BindersCounted w s.locals) c (f.1.places k);
      entries = f.1.entries;
    },
  )
    where
      below_later : {X : Type 0} (i : Ident) → X ⊎ BelowCounted w.unit s.uses i → X ⊎ BelowCounted w.unit (at_form s.form suc s.uses) i
      below_later i (inl x) = inl x
      below_later i (inr l) = inr (counted_more w.unit s.uses (at_form s.form suc s.uses) (leq_counted s.form s.uses) i l)

      at_use : (k : Number) (P : Frames → Type 0) → P ms → P (around s.places k) → P (around (used_state ms s).places k)
      at_use k P pm pk = go (same_number (next_number s s.uses) k)
        where
          go : (t : Bool) → P (cond t ms (around s.places k))
          go true = pm
          go false = pk

      plain_later : (i : Ident) → Below w s.uses i → ((es : BodyDefinitions) → is_plain (image_outside s.places i es) ≡ true) → (es : BodyDefinitions) → is_plain (image_outside (used_state ms s).places i es) ≡ true
      plain_later i l h es = ap (λ (g : BodyDefinitions → Name). is_plain (g es)) (sym (outside_places w.unit s.uses s.places (used_state ms s).places (around_old s f ms) i (below_counted w s.uses i l))) ∙ h es

  pub inserted_below : (s : ScopedState) → FineState w s → (i : Ident) → Below w s.uses i → Below w (at_form s.form suc s.uses) (Inserted i (next_number s s.uses))
  inserted_below s f i l = (next_old w s f s.uses, below_more w s.uses (at_form s.form suc s.uses) (leq_counted s.form s.uses) i l)

  -- a new inserted identifier, in the form of the use
  pub use_names : (s : ScopedState) → FineState w s → (fs ms : Frames) → Stands w s fs → (i : Ident) → Below w s.uses i
      → InsertedName (names s ms i) (next_number s s.uses) ≡ names (used_state ms s) fs (Inserted i (next_number s s.uses))
  use_names s f fs ms h i l =
      sym (inside_new w.unit s.definitions s.uses s.bodies f.1.definitions fs h.0 i (next_number s s.uses) (next_new w s f s.uses) (image_outside (used_state ms s).places (Inserted i (next_number s s.uses)))
      ∙ ap (λ (ns : Frames). InsertedName (frame_image (used_state ms s).places s.definitions ns i) (next_number s s.uses)) (around_new s ms)
      ∙ ap (λ (y : Name). InsertedName y (next_number s s.uses)) (sym (image_places w.unit s.uses s.places (used_state ms s).places s.definitions ms (around_old s f ms) i (below_counted w s.uses i l))))
