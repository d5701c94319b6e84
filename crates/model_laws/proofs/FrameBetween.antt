-- Between two units: what holds of what a unit left holds of it for each unit that wasn't worked on yet.
use Rattle.std.proofs.Common.{◌≡◌, ℕ, ◌⊎◌, inl, inr, List, [], ◌∷◌, Bool, true, false, cond, ltb, arith, Option, Some, None, refl, sym, ap, ◌∙◌, subst}
use Rattle.std.specs.Prelude.{◌==◌, ◌&&◌, ◌||◌}
use Rattle.std.proofs.lemmas.Bool.{false_from_ne_true}
use Rattle.std.proofs.lemmas.Bool.Decides.{nat_tests}
use Rattle.scheme_model.specs.Identifiers.{Number, same_number}
use Rattle.scheme_model.specs.Ident.{Ident, Written, Inserted, same_ident}
use Rattle.scheme_model.specs.Meaning.{Meaning, Local, Global, Standard, Free}
use Rattle.scheme_model.specs.RulesShape.{Rules}
use Rattle.scheme_model.specs.Substitution.{Table, Entries, Clock}
use Rattle.scheme_model.specs.ScopedExpansion.{Bind, Enter, Frames, BodyDefinition, BodyDefinitions, UsePlace, ScopedMacro, around, find}
use Rattle.scheme_model.proofs.OpenBodies.{Below as BelowCounted, Entered}
use Rattle.scheme_model.proofs.IdentLaws.{ident_told}
use Rattle.model_laws.proofs.IdentKinds.{rules_kind, rules_fused}
use Rattle.scheme_model.proofs.Clocks.{leq_itself}
use Rattle.model_laws.proofs.FrameTimes.{entered_more}
use Rattle.model_laws.proofs.FrameEras.{Era, Worked, Before, Below, below_counted}
use Rattle.model_laws.proofs.FrameAsks.{AllOf, all_of_more, MeansCounted, GivenCounted, BindersCounted}
use Rattle.model_laws.proofs.FrameRoots.{Rooted, RootMacro, MacroStands, UnitMacro, rules_more}
use Rattle.model_laws.proofs.FrameStates.{Old, ident_of, Made, MacroFine, Fine}
use Rattle.model_laws.proofs.EntryLaws.{NoLocal, GivenNoLocal}

abbrev pub none_yet : Clock
none_yet f = 0

no_local_counted : (w : Era) (n : Clock) (m : Meaning) → NoLocal m → MeansCounted w n m
no_local_counted w n (Local v) h = absurd h
no_local_counted w n (Global u i) h = tt
no_local_counted w n (Standard s) h = tt
no_local_counted w n (Free s) h = tt

pub given_counted : (w : Era) (n : Clock) (o : Option Meaning) → GivenNoLocal o → GivenCounted w n o
given_counted w n None h = tt
given_counted w n (Some m) h = no_local_counted w n m h

or_true : (t : Bool) → (t || true) ≡ true
or_true true = refl
or_true false = refl

-- w is the unit that was worked on, and z one that comes behind all these
module _ (w : Era) (z : ℕ) (done : ℕ → Bool) (more : (u : ℕ) → Worked w u → done u ≡ true) (new : done z ≡ false) where
  abbrev next : Era
  next = record { unit = z; worked = done }

  other : (u : ℕ) → done u ≡ true → (u == z) ≡ false
  other u h = false_from_ne_true (u == z) (λ e.
      let same : u ≡ z = grind (arith, nat_tests) in
      let p : true ≡ false = sym (subst (λ (v : ℕ). done v ≡ true) same h) ∙ new in absurd cc)

  number_then : (n : Clock) (k : Number) → Before w n k → Before next none_yet k
  number_then n k h =
      let d = more k.unit h.1 in
      (ap (λ t. cond t (ltb k.count 0) true) (other k.unit d), ap (λ t. k.unit == z || t) d ∙ or_true (k.unit == z))

  ident_then : (u : Clock) (i : Ident) → Below w u i → Below next none_yet i
  ident_then u (Written v s) h = tt
  ident_then u (Inserted i k) h = (number_then u k h.0, ident_then u i h.1)

  entered_then : (n : Clock) (fs : Frames) → Entered (Before w n) fs → Entered (Before next none_yet) fs
  entered_then n fs h = entered_more (Before w n) (Before next none_yet) (number_then n) fs h

  binders_then : (n : Clock) (fs : Frames) → BindersCounted w n fs → BindersCounted next none_yet fs
  binders_then n [] h = tt
  binders_then n (Bind x v ∷ fs) h = (number_then n v h.0, binders_then n fs h.1)
  binders_then n (Enter b u ∷ fs) h = binders_then n fs h

  means_then : (n : Clock) (m : Meaning) → MeansCounted w n m → MeansCounted next none_yet m
  means_then n (Local v) h = number_then n v h
  means_then n (Global u i) h = tt
  means_then n (Standard s) h = tt
  means_then n (Free s) h = tt

  rules_then : (u : Clock) (r : Rules Ident) → Made rules_kind w u r → Made rules_kind next none_yet r
  rules_then u r m = record {
    clock = none_yet;
    earlier = leq_itself none_yet;
    made = rules_kind.map (Old w m.clock) (Old next none_yet) (λ p. (p.0, ident_then m.clock p.0 p.1)) m.made;
    same = rules_fused (Old w m.clock) (Old next none_yet) Ident (ident_of next none_yet) (λ p. (p.0, ident_then m.clock p.0 p.1)) m.made ∙ m.same;
  }

  fine_then : (l u b : Clock) (k : ScopedMacro) → MacroFine w l u b k → MacroFine next none_yet none_yet none_yet k
  fine_then l u b k h = record { entered = entered_then b k.frames h.entered; rules = rules_then u k.rules h.rules; binders = binders_then l k.frames h.binders; meaning = means_then l k.meaning h.meaning }

  root_then : (u : Clock) (ps : List UsePlace) (fs : Frames) (rs : Rules Ident) → RootMacro w u ps fs rs → RootMacro next none_yet ps fs rs
  root_then u ps fs rs h = record { outside = h.outside; rooted = rules_more (Rooted w u ps) (Rooted next none_yet ps) (λ i q. (ident_then u i q.0, q.1)) rs h.rooted }

  stands_then : (u : Clock) (ps : List UsePlace) (m : Meaning) (fs : Frames) (rs : Rules Ident) → MacroStands w u ps m fs rs → MacroStands next none_yet ps m fs rs
  stands_then u ps (Local v) fs rs h = tt
  stands_then u ps (Global v i) fs rs h = root_then u ps fs rs h
  stands_then u ps (Standard s) fs rs h = root_then u ps fs rs h
  stands_then u ps (Free s) fs rs h = root_then u ps fs rs h

  defined_then : (u : Clock) (ds : BodyDefinitions) → AllOf (λ (d : BodyDefinition). Below w u d.ident) ds → (b : Number) (i : Ident) → (find ds b i ≡ None) ⊎ BelowCounted z none_yet i
  defined_then u [] h b i = inl refl
  defined_then u (d ∷ ds) h b i = go (same_number d.body b) (same_ident d.ident i) refl (defined_then u ds h.1 b i)
    where
      go : (p q : Bool) → same_ident d.ident i ≡ q → (find ds b i ≡ None) ⊎ BelowCounted z none_yet i → (cond (p && q) (Some (d.binder, ds)) (find ds b i) ≡ None) ⊎ BelowCounted z none_yet i
      go true true e r = inr (subst (BelowCounted z none_yet) (ident_told d.ident i e) (below_counted next none_yet d.ident (ident_then u d.ident h.0)))
      go true false e r = r
      go false q e r = r

  -- with whatever the next unit imports
  pub left_then : (l u b : Clock) (table : Table) (before entry : Entries) (ms : List ScopedMacro) (ps : List UsePlace) (ds : BodyDefinitions) → Fine w l u b table before ms ps ds → ((v : ℕ) (s : List ℕ) → GivenNoLocal (entry v s))
      → Fine next none_yet none_yet none_yet table entry ms ps ds
  left_then l u b table before entry ms ps ds f entries = record {
    definitions = λ a i h. defined_then u ds f.idents a i;
    bodies = all_of_more (λ (d : BodyDefinition). Before w b d.body) (λ (d : BodyDefinition). Before next none_yet d.body) (λ d h. number_then b d.body h) ds f.bodies;
    idents = all_of_more (λ (d : BodyDefinition). Below w u d.ident) (λ (d : BodyDefinition). Below next none_yet d.ident) (λ d h. ident_then u d.ident h) ds f.idents;
    entered = λ k. entered_then b (around ps k) (f.entered k);
    macros = all_of_more (MacroFine w l u b) (MacroFine next none_yet none_yet none_yet) (fine_then l u b) ms f.macros;
    stands = all_of_more (UnitMacro w u ps) (UnitMacro next none_yet ps) (λ k h. stands_then u ps k.meaning k.frames k.rules h) ms f.stands;
    outside = λ v i h. let q = f.outside v i h in (ident_then u i q.0, q.1);
    binders = all_of_more (λ (d : BodyDefinition). Before w l d.binder) (λ (d : BodyDefinition). Before next none_yet d.binder) (λ d h. number_then l d.binder h) ds f.binders;
    places = λ k. binders_then l (around ps k) (f.places k);
    entries = λ v s. given_counted next none_yet (entry v s) (entries v s);
  }
