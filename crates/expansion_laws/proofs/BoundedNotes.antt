-- A note that doesn't speak of an identifier is told nothing of its definition: what it asks means no local that isn't counted yet, and
-- no definition of the unit but its own.
use Rattle.std.proofs.Common.{◌≡◌, ℕ, List, [], ◌∷◌, Bool, true, false, cond, Option, Some, None, refl, sym, ap, ◌∙◌, subst}
use Rattle.std.specs.Prelude.{◌&&◌, ◌||◌, ◌==◌}
use Rattle.std.proofs.lemmas.Bool.{or_parts}
use Rattle.scheme_model.specs.Identifiers.{Number, same_number}
use Rattle.scheme_model.specs.Ident.{Ident, Written, Inserted, same_ident}
use Rattle.scheme_model.specs.ExpansionFaults.{Named}
use Rattle.scheme_model.specs.Meaning.{Meaning, Local, Global, Standard, Free, same_meaning}
use Rattle.scheme_model.specs.RulesShape.{Rules}
use Rattle.scheme_model.specs.Order.{Note, LookedUp, Compared, is_some}
use Rattle.scheme_model.specs.Substitution.{Table, Entries, Clock, Defined, any, differ, defined_in}
use Rattle.scheme_model.specs.Scopes.{own_of, imported_as, defined_or, given_or}
use Rattle.scheme_model.specs.ScopedExpansion.{Frames, Bind, Enter, BodyDefinition, BodyDefinitions, UsePlace, FramedIdent, ScopedMacro, ScopedState, around, find, defined_as, means_inside, means_outside, means_at, next_number, definition_added, meaning_next, refused_now}
use Rattle.unit_scopes.specs.Searched.{speaks_of}
use Rattle.unit_scopes.specs.Asks.{is_inside}
use Rattle.scheme_model.proofs.OpenBodies.{NotYet}
use Rattle.scheme_model.proofs.IdentLaws.{same_turned}
use Rattle.scheme_model.proofs.Clocks.{next_not_yet}
use Rattle.model_laws.proofs.FrameEras.{Era}
use Rattle.model_laws.proofs.FrameAsks.{AllOf, MeansCounted, GivenCounted, BindersCounted, DefinitionsCounted, not_next, inside_counted, outside_counted}
use Rattle.model_laws.proofs.FrameHeld.{NoteAll}
use Rattle.model_laws.proofs.EntryLaws.{GivenSo}

-- no local, and no definition of this unit
abbrev pub Foreign : ℕ → Meaning → Type 0
Foreign u (Local v) = ⊥
Foreign u (Global z i) = (z == u) ≡ false
Foreign u (Standard s) = Unit {0}
Foreign u (Free s) = Unit {0}

-- a state of unit w: each local in it is counted, and what units import isn't of the unit
pub record Bounded (w : Era) (s : ScopedState) : Type 0 where
  pub unit : s.unit ≡ w.unit
  pub definitions : DefinitionsCounted w s.locals s.definitions
  pub places : (k : Number) → BindersCounted w s.locals (around s.places k)
  pub macros : AllOf (λ (k : ScopedMacro). BindersCounted w s.locals k.frames) s.macros
  pub entries : (v : ℕ) (x : List ℕ) → GivenSo (Foreign w.unit) (s.entry v x)

foreign_counted : (w : Era) (n : Clock) (o : Option Meaning) → GivenSo (Foreign w.unit) o → GivenCounted w n o
foreign_counted w n None h = tt
foreign_counted w n (Some (Local v)) h = absurd h
foreign_counted w n (Some (Global z i)) h = tt
foreign_counted w n (Some (Standard s)) h = tt
foreign_counted w n (Some (Free s)) h = tt

outermost : (x i : Ident) → is_inside x i ≡ false → same_ident x i ≡ false
outermost x (Written u s) h = h
outermost x (Inserted i k) h = (or_parts (same_ident x (Inserted i k)) (is_inside x i) h).0

and_false : (t : Bool) → (t && false) ≡ false
and_false true = refl
and_false false = refl

-- ---- a definition in a body changes nothing of what has no x

module _ (d : BodyDefinition) (ds : BodyDefinitions) where
  find_still : (b : Number) (i : Ident) → same_ident d.ident i ≡ false → find (d ∷ ds) b i ≡ find ds b i
  find_still b i h = ap (λ t. cond (same_number d.body b && t) (Some (d.binder, ds)) (find ds b i)) h ∙ ap (λ t. cond t (Some (d.binder, ds)) (find ds b i)) (and_false (same_number d.body b))

  inside_still : (fs : Frames) (i : Ident) → same_ident d.ident i ≡ false → (m n : Meaning) → m ≡ n → means_inside (d ∷ ds) fs i m ≡ means_inside ds fs i n
  inside_still [] i h m n e = e
  inside_still (Bind y v ∷ fs) i h m n e = ap (cond (same_ident y i) (Local v)) (inside_still fs i h m n e)
  inside_still (Enter b u ∷ fs) i h m n e = let a = find_still b i h in let c = inside_still fs i h m n e in λ j. defined_as (a j) (c j)

  outside_still : (table : Table) (entry : Entries) (ps : List UsePlace) (i : Ident) → is_inside d.ident i ≡ false → means_outside table entry ps (d ∷ ds) i ≡ means_outside table entry ps ds i
  outside_still table entry ps (Written u s) h = refl
  outside_still table entry ps (Inserted i k) h =
      let inner = (or_parts (same_ident d.ident (Inserted i k)) (is_inside d.ident i) h).1 in
      ap (given_or (own_of table entry k.unit (Inserted i k))) (inside_still (around ps k) i (outermost d.ident i inner) _ _ (outside_still table entry ps i inner))

-- ---- nor does a definition of the unit

module _ (u : ℕ) (x : Ident) where
  abbrev Else : Meaning → Type 0
  Else m = same_meaning m (Global u x) ≡ false

  abbrev GivenElse : Option Meaning → Type 0
  GivenElse o = GivenSo Else o

  inside_else : (ds : BodyDefinitions) (fs : Frames) (i : Ident) (m : Meaning) → Else m → Else (means_inside ds fs i m)
  inside_else ds [] i m h = h
  inside_else ds (Bind y v ∷ fs) i m h = go (same_ident y i) (inside_else ds fs i m h)
    where
      go : (t : Bool) → Else (means_inside ds fs i m) → Else (cond t (Local v) (means_inside ds fs i m))
      go true q = refl
      go false q = q
  inside_else ds (Enter b c ∷ fs) i m h = go (find ds b i) (inside_else ds fs i m h)
    where
      go : (o : Option (Number × BodyDefinitions)) → Else (means_inside ds fs i m) → Else (defined_as o (means_inside ds fs i m))
      go None q = q
      go (Some d) q = refl

  given_else : (o : Option Meaning) (m : Meaning) → GivenElse o → Else m → Else (given_or o m)
  given_else None m h q = q
  given_else (Some n) m h q = h

  module _ (entry : Entries) (entries : (v : ℕ) (s : List ℕ) → GivenElse (entry v s)) where
    own_else : (table : Table) (v : ℕ) (i : Ident) → same_ident x i ≡ false → GivenElse (own_of table entry v i)
    own_else table v i h = go (defined_in table v i)
      where
        imported : (j : Ident) → GivenElse (imported_as entry v j)
        imported (Written z s) = entries v s
        imported (Inserted j k) = tt

        go : (o : Option Defined) → GivenElse (defined_or o v i (imported_as entry v i))
        go None = imported i
        go (Some d) = ap (λ t. (v == u) && t) (same_turned i x ∙ h) ∙ and_false (v == u)

    outside_else : (table : Table) (ps : List UsePlace) (ds : BodyDefinitions) (i : Ident) → is_inside x i ≡ false → Else (means_outside table entry ps ds i)
    outside_else table ps ds (Written v s) h = given_else (own_of table entry v (Written v s)) (Free s) (own_else table v (Written v s) h) refl
    outside_else table ps ds (Inserted i k) h =
        let p = or_parts (same_ident x (Inserted i k)) (is_inside x i) h in
        given_else (own_of table entry k.unit (Inserted i k)) (means_inside ds (around ps k) i (means_outside table entry ps ds i)) (own_else table k.unit (Inserted i k) p.0)
        (inside_else ds (around ps k) i (means_outside table entry ps ds i) (outside_else table ps ds i p.1))

module _ (w : Era) (s : ScopedState) (g : Bounded w s) where
  foreign_else : (x : Ident) (o : Option Meaning) → GivenSo (Foreign w.unit) o → GivenSo (Else s.unit x) o
  foreign_else x None h = tt
  foreign_else x (Some (Local v)) h = absurd h
  foreign_else x (Some (Global z i)) h = ap (λ y. (z == y) && same_ident i x) g.unit ∙ ap (λ t. t && same_ident i x) h
  foreign_else x (Some (Standard y)) h = refl
  foreign_else x (Some (Free y)) h = refl

  next_new : NotYet w.unit s.locals (next_number s s.locals)
  next_new = subst (NotYet w.unit s.locals) (ap (λ (u : ℕ). record { unit = u; form = s.form; count = s.locals s.form }) (sym g.unit)) (next_not_yet w.unit s.form s.locals)

  means_counted : (fs : Frames) → BindersCounted w s.locals fs → (i : Ident) → MeansCounted w s.locals (means_at s fs i)
  means_counted fs h i =
      inside_counted w s.locals s.definitions g.definitions fs h i (means_outside s.table s.entry s.places s.definitions i)
      (outside_counted w s.locals s.table s.entry (λ v x. foreign_counted w s.locals (s.entry v x) (g.entries v x)) s.places g.places s.definitions g.definitions i)

  module _ (n : Named Ident) (r : Option (Rules Ident)) (home : Frames) where
    -- what has no x doesn't mean what the definition gives
    unspoken : (b : Option Number) (fs : Frames) → BindersCounted w s.locals fs → (i : Ident) → is_inside n.name i ≡ false → same_meaning (means_at (definition_added b n r home s) fs i) (meaning_next s b n.name) ≡ false
    unspoken None fs h i e =
        inside_else s.unit n.name s.definitions fs i (means_outside (definition_added None n r home s).table s.entry s.places s.definitions i)
        (outside_else s.unit n.name s.entry (λ v x. foreign_else n.name (s.entry v x) (g.entries v x)) (definition_added None n r home s).table s.places s.definitions i e)
    unspoken (Some b) fs h i e =
        let d : BodyDefinition = record { body = b; ident = n.name; binder = next_number s s.locals } in
        ap (λ m. same_meaning m (Local (next_number s s.locals))) (inside_still d s.definitions fs i (outermost n.name i e) _ _ (outside_still d s.definitions s.table s.entry s.places i e))
        ∙ not_next w s.locals (next_number s s.locals) next_new (means_at s fs i) (means_counted fs h i)

    module _ (b : Option Number) where
      abbrev refused : Note FramedIdent → Bool
      refused note = refused_now (definition_added b n r home s) (meaning_next s b n.name) (is_some r) note

      abbrev Noted : FramedIdent → Type 0
      Noted l = BindersCounted w s.locals l.frames

      note_spoken : (note : Note FramedIdent) → NoteAll Noted note → (speaks_of n.name note && refused note) ≡ refused note
      note_spoken (LookedUp l head keyword) h = go (is_inside n.name l.ident) refl
        where
          go : (t : Bool) → is_inside n.name l.ident ≡ t → (t && refused (LookedUp l head keyword)) ≡ refused (LookedUp l head keyword)
          go true e = refl
          go false e = sym (ap (λ t. t && (keyword || (head && is_some r))) (unspoken b l.frames h l.ident e))
      note_spoken (Compared l j held) h = go (is_inside n.name l.ident || is_inside n.name j.ident) refl
        where
          now : FramedIdent → Meaning
          now p = means_at (definition_added b n r home s) p.frames p.ident

          go : (t : Bool) → (is_inside n.name l.ident || is_inside n.name j.ident) ≡ t → (t && refused (Compared l j held)) ≡ refused (Compared l j held)
          go true e = refl
          go false e =
              let p = or_parts (is_inside n.name l.ident) (is_inside n.name j.ident) e in
              let a = unspoken b l.frames h.0 l.ident p.0 in let c = unspoken b j.frames h.1 j.ident p.1 in
              sym (λ i. (a i || c i) && differ held (same_meaning (now l) (now j)))

      -- so the notes that speak of x refuse where all do
      pub any_spoken : (ns : List (Note FramedIdent)) → AllOf (NoteAll Noted) ns → any (λ note. speaks_of n.name note && refused note) ns ≡ any refused ns
      any_spoken [] h = refl
      any_spoken (x ∷ xs) h = let a = note_spoken x h.0 in let c = any_spoken xs h.1 in λ j. a j || c j
