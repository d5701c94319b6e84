-- What an identifier means where a form stands in a state outside of all others: what the form's own frames, bodies and uses bind, or else
-- what it means at the root. So it is of all identifiers, whatever inserted them.
use Rattle.std.proofs.Common.{◌≡◌, ℕ, ◌≤◌, ◌<◌, List, [], ◌∷◌, ◌++◌, map, Bool, true, false, cond, ltb, Option, Some, None, refl, sym, ap, ◌∙◌, subst, arith, eq-eqb}
use Rattle.std.specs.Prelude.{◌&&◌}
use Rattle.std.proofs.lemmas.Bool.{false_from_ne_true, ltb-true}
use Rattle.scheme_model.specs.Identifiers.{Number, same_number}
use Rattle.scheme_model.specs.Ident.{Ident, Written, Inserted, same_ident}
use Rattle.scheme_model.specs.Meaning.{Meaning, Local, Global, Standard, Free, of_form}
use Rattle.scheme_model.specs.Order.{is_some}
use Rattle.scheme_model.specs.Substitution.{Table, Entries, Defined, defined_in}
use Rattle.scheme_model.specs.Scopes.{local_or, defined_or, given_or, own_of}
use Rattle.scheme_model.specs.FrameImages.{is_before}
use Rattle.scheme_model.specs.ScopedExpansion.{Bind, Enter, Frames, BodyDefinition, BodyDefinitions, UsePlace, ScopedMacro, ScopedState, around, find, defined_as, means_inside, means_outside, means_at}
use Rattle.scheme_model.specs.CountedExpansion.{means_here}
use Rattle.scheme_model.specs.OwnAnswers.{found_or, local_inside, unless, local_outside, own_local, root_means, own_means}
use Rattle.scheme_model.specs.Questions.{Moment, Around, at_moment, own_at, bare, number_in}
use Rattle.scheme_model.specs.FormsAlike.{bare_place, Leaves}
use Rattle.scheme_model.proofs.IdentLaws.{number_told}
use Rattle.model_laws.proofs.FrameAsks.{AllOf}
use Rattle.model_laws.proofs.EntryLaws.{NoLocal}
use Rattle.form_laws.specs.Begins.{IsCounted, IsToCome, IsMade, Begins}
use Rattle.form_laws.proofs.AskingSides.{NoLocals, nothing_behind, root_no}
use Rattle.form_laws.proofs.Bare.{SameFrames, around_bare}
use Rattle.question_laws.specs.Noted.{is_defined_in}
use Rattle.question_laws.proofs.Roots.{defined_front, defined_behind}
use Rattle.forgotten_locals.specs.Outside.{IsOutside}

-- ---- no times are read

inside_bare : (ds : BodyDefinitions) (fs : Frames) (i : Ident) (m : Meaning) → means_inside ds (bare fs) i m ≡ means_inside ds fs i m
inside_bare ds [] i m = refl
inside_bare ds (Bind x v ∷ fs) i m = ap (cond (same_ident x i) (Local v)) (inside_bare ds fs i m)
inside_bare ds (Enter b u ∷ fs) i m = ap (defined_as (find ds b i)) (inside_bare ds fs i m)

outside_bare : (table : Table) (entry : Entries) (ps : List UsePlace) (ds : BodyDefinitions) (i : Ident) → means_outside table entry (map bare_place ps) ds i ≡ means_outside table entry ps ds i
outside_bare table entry ps ds (Written u x) = refl
outside_bare table entry ps ds (Inserted i k) =
    let p = around_bare ps k in let q = outside_bare table entry ps ds i in
    ap (given_or (own_of table entry k.unit (Inserted i k))) ((λ j. means_inside ds (p j) i (q j)) ∙ inside_bare ds (around ps k) i (means_outside table entry ps ds i))

-- ---- the form's own answer, or the root's

inside_or : (ds : BodyDefinitions) (fs : Frames) (i : Ident) (l : Option Number) (m : Meaning) → means_inside ds fs i (local_or l m) ≡ local_or (local_inside ds fs i l) m
inside_or ds [] i l m = refl
inside_or ds (Bind x v ∷ fs) i l m = go (same_ident x i) (inside_or ds fs i l m)
  where
    go : (t : Bool) → means_inside ds fs i (local_or l m) ≡ local_or (local_inside ds fs i l) m → cond t (Local v) (means_inside ds fs i (local_or l m)) ≡ local_or (cond t (Some v) (local_inside ds fs i l)) m
    go true h = refl
    go false h = h
inside_or ds (Enter b u ∷ fs) i l m = ap (defined_as (find ds b i)) (inside_or ds fs i l m) ∙ go (find ds b i)
  where
    go : (o : Option (Number × BodyDefinitions)) → defined_as o (local_or (local_inside ds fs i l) m) ≡ local_or (found_or o (local_inside ds fs i l)) m
    go None = refl
    go (Some d) = refl

given_defined : (o : Option Defined) → is_some o ≡ true → (u : ℕ) (i : Ident) (p : Option Meaning) (m : Meaning) → given_or (defined_or o u i p) m ≡ Global u i
given_defined None e u i p m = let q : false ≡ true = e in absurd cc
given_defined (Some d) e u i p m = refl

unless_none : (t : Bool) → unless t None ≡ None
unless_none true = refl
unless_none false = refl

-- no use that was counted has a place
module _ (s0 : ScopedState) (k0 : Begins s0) (own : Table) (ps : List UsePlace) (ds : BodyDefinitions) (none : (k : Number) → IsCounted s0 s0.uses k → around ps k ≡ []) where
  below_none : (i : Ident) → IsMade s0 i → local_outside own ps ds i ≡ None
  below_none (Written u x) b = refl
  below_none (Inserted i k) b =
      let p = none k b.0 in let q = below_none i b.1 in
      (λ j. unless (is_some (defined_in own k.unit (Inserted i k))) (local_inside ds (p j) i (q j))) ∙ unless_none (is_some (defined_in own k.unit (Inserted i k)))

  abbrev outer : Ident → Meaning
  outer i = means_outside (own ++ s0.table) s0.entry ps ds i

  abbrev root : Ident → Meaning
  root i = means_outside (own ++ s0.table) s0.entry [] [] i

  inserted_or : (i : Ident) (k : Number) → outer i ≡ local_or (local_outside own ps ds i) (root i) → outer (Inserted i k) ≡ local_or (local_outside own ps ds (Inserted i k)) (root (Inserted i k))
  inserted_or i k ih = go (is_defined_in own k.unit (Inserted i k)) refl
    where
      inner : Meaning
      inner = means_inside ds (around ps k) i (outer i)

      within : Option Number
      within = local_inside ds (around ps k) i (local_outside own ps ds i)

      inner_is : inner ≡ local_or within (root i)
      inner_is = ap (means_inside ds (around ps k) i) ih ∙ inside_or ds (around ps k) i (local_outside own ps ds i) (root i)

      old : is_some (defined_in s0.table k.unit (Inserted i k)) ≡ true → within ≡ None
      old t = let b = k0.defined k.unit (Inserted i k) t in ap (λ fs. local_inside ds fs i (local_outside own ps ds i)) (none k b.0) ∙ below_none i b.1

      by : (o : Option Defined) → defined_in s0.table k.unit (Inserted i k) ≡ o → given_or (defined_or o k.unit (Inserted i k) None) inner ≡ local_or within (given_or (defined_or o k.unit (Inserted i k) None) (root i))
      by None f = inner_is
      by (Some d) f = sym (ap (λ l. local_or l (Global k.unit (Inserted i k))) (old (ap is_some f)))

      -- what the form itself defines
      mine : is_defined_in own k.unit (Inserted i k) ≡ true → (m : Meaning) → given_or (defined_or (defined_in (own ++ s0.table) k.unit (Inserted i k)) k.unit (Inserted i k) None) m ≡ Global k.unit (Inserted i k)
      mine d m =
          ap (λ o. given_or (defined_or o k.unit (Inserted i k) None) m) (defined_front own s0.table k.unit (Inserted i k) d)
          ∙ given_defined (defined_in own k.unit (Inserted i k)) d k.unit (Inserted i k) None m

      go : (b : Bool) → is_defined_in own k.unit (Inserted i k) ≡ b → outer (Inserted i k) ≡ local_or (local_outside own ps ds (Inserted i k)) (root (Inserted i k))
      go true d = mine d inner ∙ sym (let x = mine d (root i) in λ j. local_or (unless (d j) within) (x j))
      go false d =
          let b = defined_behind own s0.table k.unit (Inserted i k) d in
          ap (λ o. given_or (defined_or o k.unit (Inserted i k) None) inner) b
          ∙ (by (defined_in s0.table k.unit (Inserted i k)) refl
          ∙ sym (λ j. local_or (unless (d j) within) (given_or (defined_or (b j) k.unit (Inserted i k) None) (root i))))

  outside_or : (i : Ident) → outer i ≡ local_or (local_outside own ps ds i) (root i)
  outside_or (Written u x) = refl
  outside_or (Inserted i k) = inserted_or i k (outside_or i)

-- ---- what a form has made by a moment

module _ (w : Around) where
  -- a local of the form, one of so many
  abbrev pub InForm : ℕ → Number → Type 0
  InForm most v = (v.unit ≡ w.state.unit) × (v.form ≡ w.state.form) × (v.count < most)

  abbrev pub Here : ℕ → Frames → Type 0
  Here most [] = Unit {0}
  Here most (Bind x v ∷ fs) = InForm most v × Here most fs
  Here most (Enter b u ∷ fs) = Here most fs

  abbrev pub IsNewPlace : ℕ → UsePlace → Type 0
  IsNewPlace most p = IsToCome w.state w.state.uses p.use_number × Here most p.frames

  pub record Good (n : Moment) : Type 0 where
    pub uses : w.state.uses w.state.form ≤ n.uses
    pub places : AllOf (IsNewPlace n.locals) n.places
    pub macros : AllOf (λ (k : ScopedMacro). Here n.locals k.frames) n.macros
    pub binders : AllOf (λ (d : BodyDefinition). InForm n.locals d.binder) n.definitions

  pub here_more : (a b : ℕ) → a ≤ b → (fs : Frames) → Here a fs → Here b fs
  here_more a b l [] h = tt
  here_more a b l (Bind x v ∷ fs) h = ((h.0.0, h.0.1, (let m : v.count < a = h.0.2 in omega (arith, l, m))), here_more a b l fs h.1)
  here_more a b l (Enter c u ∷ fs) h = here_more a b l fs h

  pub here_bare : (a : ℕ) (fs : Frames) → Here a fs → Here a (bare fs)
  here_bare a [] h = tt
  here_bare a (Bind x v ∷ fs) h = (h.0, here_bare a fs h.1)
  here_bare a (Enter c u ∷ fs) h = here_bare a fs h

  pub here_back : (a : ℕ) (fs : Frames) → Here a (bare fs) → Here a fs
  here_back a [] h = tt
  here_back a (Bind x v ∷ fs) h = (h.0, here_back a fs h.1)
  here_back a (Enter c u ∷ fs) h = here_back a fs h

  pub here_same : (a : ℕ) (fs gs : Frames) → SameFrames fs gs → Here a fs → Here a gs
  here_same a fs gs e h = here_back a gs (subst (Here a) (sym e) (here_bare a fs h))

  -- the next use is one to come
  pub next_to_come : (c : ℕ) → w.state.uses w.state.form ≤ c → IsToCome w.state w.state.uses (number_in w c)
  next_to_come c l =
      ap (λ t. cond t (ltb c (w.state.uses w.state.form)) true) (eq-eqb w.state.unit w.state.unit refl)
      ∙ false_from_ne_true (ltb c (w.state.uses w.state.form)) (λ e. let p : c < w.state.uses w.state.form = ltb-true c (w.state.uses w.state.form) e in omega (arith, p, l))

  none_at : (most : ℕ) (ps : List UsePlace) → AllOf (IsNewPlace most) ps → (k : Number) → IsCounted w.state w.state.uses k → around ps k ≡ []
  none_at most [] h k e = refl
  none_at most (p ∷ ps) h k e =
      ap (λ t. cond t p.frames (around ps k)) (false_from_ne_true (same_number p.use_number k) (λ d. apart (number_told p.use_number k d))) ∙ none_at most ps h.1 k e
    where
      apart : p.use_number ≡ k → ⊥
      apart d = let q : true ≡ false = sym e ∙ (sym (ap (λ z. is_before w.state.unit w.state.uses z) d) ∙ h.0.0) in absurd cc

  -- ---- in a state outside of all forms

  module _ (out : IsOutside w.state) (begins : Begins w.state) (en : NoLocals w) (n : Moment) (good : Good n) (s : ScopedState) (left : Leaves w n s) where
    pub definitions_are : s.definitions ≡ n.definitions
    definitions_are =
        ap (λ (z : ScopedState). z.definitions) left
        ∙ (ap (λ ds. n.definitions ++ ds) (sym (ap (λ (z : ScopedState). z.definitions) out)) ∙ nothing_behind n.definitions)

    pub places_are : map bare_place s.places ≡ map bare_place n.places
    places_are =
        ap (λ (z : ScopedState). z.places) left
        ∙ ap (map bare_place) (ap (λ ps. n.places ++ ps) (sym (ap (λ (z : ScopedState). z.places) out)) ∙ nothing_behind n.places)

    none : (k : Number) → IsCounted w.state w.state.uses k → around n.places k ≡ []
    none k e = none_at n.locals n.places good.places k e

    -- in all frames
    pub means_now : (fs gs : Frames) → SameFrames fs gs → (i : Ident) → means_at s gs i ≡ own_means (own_at n) (at_moment w n) fs i
    means_now fs gs e i =
        let a = definitions_are in let b = places_are in
        let c = ap (λ (z : ScopedState). z.table) left in let d = ap (λ (z : ScopedState). z.entry) left in
        sym (ap (means_inside s.definitions (bare gs) i) (outside_bare s.table s.entry s.places s.definitions i) ∙ inside_bare s.definitions gs i (means_outside s.table s.entry s.places s.definitions i))
        ∙ ((λ j. means_inside (a j) (e j) i (means_outside (c j) (d j) (b j) (a j) i))
        ∙ (ap (means_inside n.definitions (bare fs) i) (outside_bare (n.table ++ w.state.table) w.state.entry n.places n.definitions i)
        ∙ (inside_bare n.definitions fs i (means_outside (n.table ++ w.state.table) w.state.entry n.places n.definitions i)
        ∙ (ap (means_inside n.definitions fs i) (outside_or w.state begins n.table n.places n.definitions none i)
        ∙ inside_or n.definitions fs i (local_outside n.table n.places n.definitions i) (root_means (at_moment w n) i)))))

    -- ---- locals are of the form

    abbrev Tells : Option Number → Type 0
    Tells None = Unit {0}
    Tells (Some v) = InForm n.locals v

    found_tells : (ds : BodyDefinitions) → AllOf (λ (d : BodyDefinition). InForm n.locals d.binder) ds → (b : Number) (i : Ident) (l : Option Number) → Tells l → Tells (found_or (find ds b i) l)
    found_tells [] h b i l t = t
    found_tells (d ∷ ds) h b i l t = go (same_number d.body b && same_ident d.ident i) (found_tells ds h.1 b i l t)
      where
        go : (z : Bool) → Tells (found_or (find ds b i) l) → Tells (found_or (cond z (Some (d.binder, ds)) (find ds b i)) l)
        go true r = h.0
        go false r = r

    inside_tells : (fs : Frames) → Here n.locals fs → (i : Ident) (l : Option Number) → Tells l → Tells (local_inside n.definitions fs i l)
    inside_tells [] h i l t = t
    inside_tells (Bind x v ∷ fs) h i l t = go (same_ident x i) (inside_tells fs h.1 i l t)
      where
        go : (z : Bool) → Tells (local_inside n.definitions fs i l) → Tells (cond z (Some v) (local_inside n.definitions fs i l))
        go true r = h.0
        go false r = r
    inside_tells (Enter b u ∷ fs) h i l t = found_tells n.definitions good.binders b i (local_inside n.definitions fs i l) (inside_tells fs h i l t)

    around_here : (ps : List UsePlace) → AllOf (IsNewPlace n.locals) ps → (k : Number) → Here n.locals (around ps k)
    around_here [] h k = tt
    around_here (p ∷ ps) h k = go (same_number p.use_number k) (around_here ps h.1 k)
      where
        go : (z : Bool) → Here n.locals (around ps k) → Here n.locals (cond z p.frames (around ps k))
        go true r = h.0.1
        go false r = r

    unless_tells : (z : Bool) (l : Option Number) → Tells l → Tells (unless z l)
    unless_tells true l t = tt
    unless_tells false l t = t

    outside_tells : (i : Ident) → Tells (local_outside n.table n.places n.definitions i)
    outside_tells (Written u x) = tt
    outside_tells (Inserted i k) =
        unless_tells (is_some (defined_in n.table k.unit (Inserted i k))) (local_inside n.definitions (around n.places k) i (local_outside n.table n.places n.definitions i))
        (inside_tells (around n.places k) (around_here n.places good.places k) i (local_outside n.table n.places n.definitions i) (outside_tells i))

    free_same : (u f : ℕ) (m : Meaning) → NoLocal m → of_form u f m ≡ m
    free_same u f (Local v) h = absurd h
    free_same u f (Global z i) h = refl
    free_same u f (Standard x) h = refl
    free_same u f (Free x) h = refl

    told_same : (l : Option Number) → Tells l → (m : Meaning) → NoLocal m → of_form w.state.unit w.state.form (local_or l m) ≡ local_or l m
    told_same None t m h = free_same w.state.unit w.state.form m h
    told_same (Some v) t m h = let a = t.0 in let b = t.1 in λ j. Local (record { unit = sym a j; form = sym b j; count = v.count })

    pub root_free : (i : Ident) → NoLocal (root_means (at_moment w n) i)
    root_free i = root_no (n.table ++ w.state.table) w.state.entry en i

    pub means_told : (fs gs : Frames) → SameFrames fs gs → Here n.locals fs → (i : Ident) → means_here s gs i ≡ own_means (own_at n) (at_moment w n) fs i
    means_told fs gs e h i =
        let a = ap (λ (z : ScopedState). z.unit) left in let b = ap (λ (z : ScopedState). z.form) left in let c = means_now fs gs e i in
        (λ j. of_form (a j) (b j) (c j))
        ∙ told_same (own_local (own_at n) fs i) (inside_tells fs h i (local_outside n.table n.places n.definitions i) (outside_tells i)) (root_means (at_moment w n) i) (root_free i)

    -- told by its count alone, it means the same
    pub here_told : (fs : Frames) → Here n.locals fs → (i : Ident) → means_here s fs i ≡ means_at s fs i
    here_told fs h i = means_told fs fs refl h i ∙ sym (means_now fs fs refl i)
