-- While all that is bound is of the form at work and counted, a definition that searches the notes that speak of its identifier ends as one
-- that goes through all.
use Rattle.std.proofs.Common.{◌≡◌, ℕ, suc, ◌+◌, List, [], ◌∷◌, Bool, true, false, cond, Option, Some, None, Result, Ok, Err, refl, sym, ap, ◌∙◌, subst}
use Rattle.std.specs.Prelude.{◌&&◌, ◌||◌}
use Rattle.scheme_model.specs.Identifiers.{Number, same_number}
use Rattle.scheme_model.specs.Ident.{Ident, Written, Inserted, same_ident}
use Rattle.scheme_model.specs.ExpansionFaults.{Named, Fault, KeywordRedefined, Duplicate}
use Rattle.scheme_model.specs.Meaning.{Meaning, Local, Global, Standard, Free, same_meaning, of_form}
use Rattle.scheme_model.specs.Requirements.{Known}
use Rattle.scheme_model.specs.RulesShape.{Rules}
use Rattle.scheme_model.specs.Order.{Note, LookedUp, Compared, Pending, Renamed, Transformer, is_some}
use Rattle.scheme_model.specs.Substitution.{Defined, at_form, any, differ, defined_in, unchanged}
use Rattle.scheme_model.specs.Scopes.{own_of, imported_as, defined_or, given_or}
use Rattle.scheme_model.specs.ScopedExpansion.{Bind, Enter, Frames, BodyDefinition, BodyDefinitions, UsePlace, FramedIdent, ScopedMacro, ScopedState, around, find, defined_as, means_inside, means_outside, means_at, next_number, macro_at, macro_added, body_around, definition_added, meaning_next, is_defined, refused_now}
use Rattle.scheme_model.specs.CountedExpansion.{means_here, refused_here, counted}
use Rattle.unit_scopes.specs.Searched.{speaks_of, define_searched}
use Rattle.scheme_model.proofs.OpenBodies.{Leq}
use Rattle.scheme_model.proofs.Clocks.{leq_itself, leq_then, leq_counted}
use Rattle.model_laws.proofs.FrameEras.{Era}
use Rattle.model_laws.proofs.FrameAsks.{AllOf, BindersCounted}
use Rattle.model_laws.proofs.FrameHeads.{IfMacro}
use Rattle.model_laws.proofs.FrameHeld.{NoteAll, notes_more}
use Rattle.model_laws.proofs.FrameStates.{binders_more}
use Rattle.model_laws.proofs.EntryLaws.{GivenSo}
use Rattle.expansion_laws.proofs.AlikeSteps.{Likeness}
use Rattle.expansion_laws.proofs.BoundedNotes.{Foreign, Bounded, any_spoken}
use Rattle.expansion_laws.proofs.SearchedStates.{locals_more, next_old, still, begun, kept, among, defined_bounded, left_same}

module _ (w : Era) (form : ℕ) where
  -- of the form at work
  abbrev pub IsOf : Number → Type 0
  IsOf v = (v.unit ≡ w.unit) × (v.form ≡ form)

  abbrev pub OfFrames : Frames → Type 0
  OfFrames [] = Unit {0}
  OfFrames (Bind x v ∷ fs) = IsOf v × OfFrames fs
  OfFrames (Enter b u ∷ fs) = OfFrames fs

  abbrev MeansOf : Meaning → Type 0
  MeansOf (Local v) = IsOf v
  MeansOf (Global u i) = Unit {0}
  MeansOf (Standard x) = Unit {0}
  MeansOf (Free x) = Unit {0}

  pub record OfForm (s : ScopedState) : Type 0 where
    pub bounded : Bounded w s
    pub form_is : s.form ≡ form
    pub definitions : AllOf (λ (d : BodyDefinition). IsOf d.binder) s.definitions
    pub places : (k : Number) → OfFrames (around s.places k)
    pub macros : AllOf (λ (k : ScopedMacro). OfFrames k.frames) s.macros

  abbrev pub Fits : ScopedState → Frames → Type 0
  Fits s fs = BindersCounted w s.locals fs × OfFrames fs

  -- ---- what is bound is of the form

  found_of : (ds : BodyDefinitions) → AllOf (λ (d : BodyDefinition). IsOf d.binder) ds → (b : Number) (i : Ident) (m : Meaning) → MeansOf m → MeansOf (defined_as (find ds b i) m)
  found_of [] h b i m k = k
  found_of (d ∷ ds) h b i m k = go (same_number d.body b && same_ident d.ident i) (found_of ds h.1 b i m k)
    where
      go : (t : Bool) → MeansOf (defined_as (find ds b i) m) → MeansOf (defined_as (cond t (Some (d.binder, ds)) (find ds b i)) m)
      go true q = h.0
      go false q = q

  inside_of : (ds : BodyDefinitions) → AllOf (λ (d : BodyDefinition). IsOf d.binder) ds → (fs : Frames) → OfFrames fs → (i : Ident) (m : Meaning) → MeansOf m → MeansOf (means_inside ds fs i m)
  inside_of ds defs [] h i m k = k
  inside_of ds defs (Bind x v ∷ fs) h i m k = go (same_ident x i) (inside_of ds defs fs h.1 i m k)
    where
      go : (t : Bool) → MeansOf (means_inside ds fs i m) → MeansOf (cond t (Local v) (means_inside ds fs i m))
      go true q = h.0
      go false q = q
  inside_of ds defs (Enter b u ∷ fs) h i m k = found_of ds defs b i (means_inside ds fs i m) (inside_of ds defs fs h i m k)

  foreign_of : (o : Option Meaning) → GivenSo (Foreign w.unit) o → (m : Meaning) → MeansOf m → MeansOf (given_or o m)
  foreign_of None h m k = k
  foreign_of (Some (Local v)) h m k = absurd h
  foreign_of (Some (Global z i)) h m k = tt
  foreign_of (Some (Standard x)) h m k = tt
  foreign_of (Some (Free x)) h m k = tt

  module _ (s : ScopedState) (g : OfForm s) where
    own_means : (u : ℕ) (i : Ident) (m : Meaning) → MeansOf m → MeansOf (given_or (own_of s.table s.entry u i) m)
    own_means u i m k = go (defined_in s.table u i)
      where
        imported : (j : Ident) → MeansOf (given_or (imported_as s.entry u j) m)
        imported (Written v x) = foreign_of (s.entry u x) (g.bounded.entries u x) m k
        imported (Inserted j v) = k

        go : (o : Option Defined) → MeansOf (given_or (defined_or o u i (imported_as s.entry u i)) m)
        go None = imported i
        go (Some d) = tt

    outside_of : (i : Ident) → MeansOf (means_outside s.table s.entry s.places s.definitions i)
    outside_of (Written u x) = own_means u (Written u x) (Free x) tt
    outside_of (Inserted i k) =
        own_means k.unit (Inserted i k) (means_inside s.definitions (around s.places k) i (means_outside s.table s.entry s.places s.definitions i))
        (inside_of s.definitions g.definitions (around s.places k) (g.places k) i (means_outside s.table s.entry s.places s.definitions i) (outside_of i))

    told_of : (m : Meaning) → MeansOf m → of_form s.unit s.form m ≡ m
    told_of (Local v) h =
        let a = g.bounded.unit ∙ sym h.0 in let b = g.form_is ∙ sym h.1 in
        λ j. Local (record { unit = a j; form = b j; count = v.count })
    told_of (Global u i) h = refl
    told_of (Standard x) h = refl
    told_of (Free x) h = refl

    -- so it is told by its count alone
    pub here_is : (fs : Frames) → OfFrames fs → (i : Ident) → means_here s fs i ≡ means_at s fs i
    here_is fs h i = told_of (means_at s fs i) (inside_of s.definitions g.definitions fs h i (means_outside s.table s.entry s.places s.definitions i) (outside_of i))

    pub next_of : IsOf (next_number s s.locals)
    next_of = (g.bounded.unit, g.form_is)

    -- ---- each step keeps it

    pub still_of : (x : ScopedState) → Bounded w x → x.form ≡ s.form → x.definitions ≡ s.definitions → x.places ≡ s.places → x.macros ≡ s.macros → OfForm x
    still_of x b f d p m = record {
      bounded = b;
      form_is = f ∙ g.form_is;
      definitions = subst (AllOf (λ (d : BodyDefinition). IsOf d.binder)) (sym d) g.definitions;
      places = λ k. subst (λ (ps : List UsePlace). OfFrames (around ps k)) (sym p) (g.places k);
      macros = subst (AllOf (λ (k : ScopedMacro). OfFrames k.frames)) (sym m) g.macros;
    }

    pub begun_of : (fs : Frames) → Fits s fs → OfForm (record s { uses = at_form s.form suc s.uses; places = record { use_number = next_number s s.uses; frames = fs } ∷ s.places })
    begun_of fs h = record { bounded = begun w s g.bounded fs h.0; form_is = g.form_is; definitions = g.definitions; places = λ k. go k (same_number (next_number s s.uses) k); macros = g.macros }
      where
        go : (k : Number) (t : Bool) → OfFrames (cond t fs (around s.places k))
        go k true = h.1
        go k false = g.places k

    pub kept_of : (fs : Frames) → Fits s fs → (m : Meaning) (r : Rules Ident) → OfForm (record s { macros = record { meaning = m; frames = fs; rules = r } ∷ s.macros })
    kept_of fs h m r = record { bounded = kept w s g.bounded fs h.0 m r; form_is = g.form_is; definitions = g.definitions; places = g.places; macros = (h.1, g.macros) }

    added_of : (m : Meaning) (fs : Frames) → OfFrames fs → (r : Option (Rules Ident)) → AllOf (λ (k : ScopedMacro). OfFrames k.frames) (macro_added m fs r s.macros)
    added_of m fs h None = g.macros
    added_of m fs h (Some r) = (h, g.macros)

  -- ---- definitions

  module _ (s : ScopedState) (g : OfForm s) where
    -- by what it makes
    defined_of : (b : Option Number) (n : Named Ident) (r : Option (Rules Ident)) (fs : Frames) → Fits s fs → Bounded w (definition_added b n r fs s) → OfForm (definition_added b n r fs s)
    defined_of None n r fs h k = record { bounded = k; form_is = g.form_is; definitions = g.definitions; places = g.places; macros = added_of s g (Global s.unit n.name) fs h.1 r }
    defined_of (Some b) n r fs h k = record { bounded = k; form_is = g.form_is; definitions = (next_of s g, g.definitions); places = g.places; macros = added_of s g (Local (next_number s s.locals)) fs h.1 r }

    module _ (n : Named Ident) (r : Option (Rules Ident)) (fs : Frames) (h : Fits s fs) (b : Option Number) where
      abbrev after : ScopedState
      after = definition_added b n r fs s

      after_of : OfForm after
      after_of = defined_of b n r fs h (defined_bounded w s g.bounded fs h.0 b n r (record { todo = []; aside = []; uses = []; notes = [] }) false false).0

      abbrev Noted : FramedIdent → Type 0
      Noted l = Fits s l.frames

      after_is : (l : FramedIdent) → Noted l → means_here after l.frames l.ident ≡ means_at after l.frames l.ident
      after_is l q = here_is after after_of l.frames q.1 l.ident

      note_here : (note : Note FramedIdent) → NoteAll Noted note → refused_here after (meaning_next s b n.name) (is_some r) note ≡ refused_now after (meaning_next s b n.name) (is_some r) note
      note_here (LookedUp l head keyword) q = ap (λ m. same_meaning m (meaning_next s b n.name) && (keyword || (head && is_some r))) (after_is l q)
      note_here (Compared l j held) q =
          let x = after_is l q.0 in let y = after_is j q.1 in
          λ i. (same_meaning (x i) (meaning_next s b n.name) || same_meaning (y i) (meaning_next s b n.name)) && differ held (same_meaning (x i) (y i))

      all_here : (ns : List (Note FramedIdent)) → AllOf (NoteAll Noted) ns → any (λ note. speaks_of n.name note && refused_here after (meaning_next s b n.name) (is_some r) note) ns ≡ any (λ note. speaks_of n.name note && refused_now after (meaning_next s b n.name) (is_some r) note) ns
      all_here [] q = refl
      all_here (x ∷ xs) q = let a = note_here x q.0 in let c = all_here xs q.1 in λ j. (speaks_of n.name x && a j) || c j

      all_now : (ns : List (Note FramedIdent)) → AllOf (NoteAll Noted) ns → any (refused_here after (meaning_next s b n.name) (is_some r)) ns ≡ any (refused_now after (meaning_next s b n.name) (is_some r)) ns
      all_now [] q = refl
      all_now (x ∷ xs) q = let a = note_here x q.0 in let c = all_now xs q.1 in λ j. a j || c j

      pub spoken_here : (ns : List (Note FramedIdent)) → AllOf (NoteAll Noted) ns → any (λ note. speaks_of n.name note && refused_here after (meaning_next s b n.name) (is_some r) note) ns ≡ any (refused_here after (meaning_next s b n.name) (is_some r)) ns
      spoken_here ns q =
          all_here ns q
          ∙ (any_spoken w s g.bounded n r fs b ns (notes_more Noted (λ (l : FramedIdent). BindersCounted w s.locals l.frames) (λ l k. k.0) ns q)
          ∙ sym (all_now ns q))

  -- how a definition ends, by whether it is refused
  abbrev ends : Bool → Option Number → Named Ident → Option (Rules Ident) → Frames → Pending Ident FramedIdent → ScopedState → Result (Renamed Ident FramedIdent) (Fault Ident) × ScopedState
  ends a b n r fs p s = cond a (Err (KeywordRedefined n), s) (cond (is_defined s b n.name) (Err (Duplicate n), s) (Ok (unchanged p), definition_added b n r fs s))

  pub ended_of : (s : ScopedState) (g : OfForm s) (fs : Frames) → Fits s fs → (b : Option Number) (n : Named Ident) (r : Option (Rules Ident)) (p : Pending Ident FramedIdent) (a c : Bool)
      → let q = cond {A = Result (Renamed Ident FramedIdent) (Fault Ident) × ScopedState} a (Err (KeywordRedefined n), s) (cond c (Err (Duplicate n), s) (Ok (unchanged p), definition_added b n r fs s)) in OfForm q.1 × Leq s.locals q.1.locals
  ended_of s g fs h b n r p true c = (g, leq_itself s.locals)
  ended_of s g fs h b n r p false true = (g, leq_itself s.locals)
  ended_of s g fs h b n r p false false = let d = defined_bounded w s g.bounded fs h.0 b n r p false false in (defined_of s g b n r fs h d.0, d.1)

  pub among_of : (ks : List ScopedMacro) → AllOf (λ (k : ScopedMacro). OfFrames k.frames) ks → (m : Meaning) → IfMacro (λ (t : Transformer Frames Ident). OfFrames t.env) (macro_at ks m)
  among_of [] h m = tt
  among_of (k ∷ ks) h m = go (same_meaning k.meaning m) (among_of ks h.1 m)
    where
      go : (t : Bool) → IfMacro (λ (t : Transformer Frames Ident). OfFrames t.env) (macro_at ks m) → IfMacro (λ (t : Transformer Frames Ident). OfFrames t.env) (cond t (Some (record { env = k.frames; rules = k.rules })) (macro_at ks m))
      go true q = h.0
      go false q = q

  pub both_if : (P Q : Frames → Type 0) (o : Option (Transformer Frames Ident)) → IfMacro (λ (t : Transformer Frames Ident). P t.env) o → IfMacro (λ (t : Transformer Frames Ident). Q t.env) o → IfMacro (λ (t : Transformer Frames Ident). P t.env × Q t.env) o
  both_if P Q None a b = tt
  both_if P Q (Some t) a b = (a, b)

  abbrev pub searching : (known : Known) → Likeness (counted known)
  searching known = record {
    define = λ n r fs p s. define_searched (body_around fs) n r fs p s;
    good = OfForm;
    fits = Fits;
    noted = λ s l. Fits s l.frames;
    defines = λ fs. Unit {0};
    inside = λ s fs ts. tt;
    later = λ s t. Leq s.locals t.locals;
    itself = λ s. leq_itself s.locals;
    then_ = λ s t u a b. leq_then s.locals t.locals u.locals a b;
    fits_later = λ s t le fs h. (binders_more w s.locals t.locals le fs h.0, h.1);
    noted_later = λ s t le l h. (binders_more w s.locals t.locals le l.frames h.0, h.1);
    placed = λ s fs h i. h;
    spend = λ s g n. (still_of s g (record s { nodes = at_form s.form (λ m. m + n) s.nodes }) (still w s g.bounded (at_form s.form (λ m. m + n) s.nodes) s.keywords s.met s.bodies) refl refl refl refl, leq_itself s.locals);
    spend_means = λ s n fs i. refl;
    meet = λ s g t. (still_of s g (record s { keywords = at_form s.form (λ ts. t ∷ ts) s.keywords }) (still w s g.bounded s.nodes (at_form s.form (λ ts. t ∷ ts) s.keywords) s.met s.bodies) refl refl refl refl, leq_itself s.locals);
    meet_use = λ s g u. (still_of s g (record s { met = at_form s.form (λ us. u ∷ us) s.met }) (still w s g.bounded s.nodes s.keywords (at_form s.form (λ us. u ∷ us) s.met) s.bodies) refl refl refl refl, leq_itself s.locals);
    begin_use = λ s g fs h. (begun_of s g fs h, leq_itself s.locals);
    take_local = λ s g. (still_of s g (record s { locals = at_form s.form suc s.locals }) (locals_more w s g.bounded (at_form s.form suc s.locals) (leq_counted s.form s.locals)) refl refl refl refl, leq_counted s.form s.locals);
    bind = λ s g fs h x ts. (
      (still_of s g (record s { locals = at_form s.form suc s.locals }) (locals_more w s g.bounded (at_form s.form suc s.locals) (leq_counted s.form s.locals)) refl refl refl refl, leq_counted s.form s.locals),
      ((next_old w s g.bounded, binders_more w s.locals (at_form s.form suc s.locals) (leq_counted s.form s.locals) fs h.0), (next_of s g, h.1)),
    );
    keep = λ s g fs h v r. (kept_of s g fs h (Local v) r, leq_itself s.locals);
    enter = λ s g fs h ts. ((still_of s g (record s { bodies = at_form s.form suc s.bodies }) (still w s g.bounded s.nodes s.keywords s.met (at_form s.form suc s.bodies)) refl refl refl refl, leq_itself s.locals), h);
    transformer = λ s g m. both_if (BindersCounted w s.locals) OfFrames (macro_at s.macros m) (among w s.locals s.macros g.bounded.macros m) (among_of s.macros g.macros m);
    same = λ s g fs defines h n r p ns. ap (λ t. ends t (body_around fs) n r fs p s) (spoken_here s g n r fs h (body_around fs) p.notes ns);
    defined = λ s g fs defines h n r p. ended_of s g fs h (body_around fs) n r p (any (refused_here (definition_added (body_around fs) n r fs s) (meaning_next s (body_around fs) n.name) (is_some r)) p.notes) (is_defined s (body_around fs) n.name);
    left = λ s fs n r p. left_same w s (definition_added (body_around fs) n r fs s) n p (any (refused_here (definition_added (body_around fs) n r fs s) (meaning_next s (body_around fs) n.name) (is_some r)) p.notes) (is_defined s (body_around fs) n.name);
  }
