-- A unit that forgets what is local comes to the same where its definitions go through the notes that speak of their identifiers alone.
use Rattle.std.proofs.Common.{◌≡◌, ℕ, List, [], ◌∷◌, Bool, true, false, cond, Option, Some, None, Result, Ok, Err, refl, sym, ap, ◌∙◌, subst}
use Rattle.std.specs.Prelude.{nat_lt}
use Rattle.scheme_model.specs.Ident.{Ident}
use Rattle.scheme_model.specs.Trees.{Tree}
use Rattle.scheme_model.specs.Meaning.{Meaning, Local, Global, Standard, Free}
use Rattle.scheme_model.specs.Requirements.{Known}
use Rattle.scheme_model.specs.Cores.{Parts}
use Rattle.scheme_model.specs.Steps.{Broken}
use Rattle.scheme_model.specs.Order.{Note, LookedUp, Compared, Left, Pass, run}
use Rattle.scheme_model.specs.Expression.{expand}
use Rattle.scheme_model.specs.UnitExpansion.{Formed, ◌then◌, going, max_total, nodes_in, unless_over, one_form, form_parts}
use Rattle.scheme_model.specs.ScopedExpansion.{Frames, BodyDefinition, BodyDefinitions, UsePlace, FramedIdent, ScopedMacro, ScopedState, around}
use Rattle.scheme_model.specs.CountedExpansion.{counted}
use Rattle.scheme_model.specs.Questions.{Around}
use Rattle.scheme_model.specs.FormsAlike.{set_aside}
use Rattle.unit_scopes.specs.Searched.{searched}
use Rattle.model_laws.proofs.FrameEras.{Era}
use Rattle.model_laws.proofs.FrameAsks.{AllOf, BindersCounted, DefinitionsCounted}
use Rattle.model_laws.proofs.FrameHeld.{NoteAll}
use Rattle.model_laws.proofs.EntryLaws.{NoLocal, GivenSo}
use Rattle.form_laws.specs.Begins.{Each, MacroStands, Begins, NoteStands, FormBegins, RestBegins}
use Rattle.kept_forms.specs.KeptForms.{FormOrKept, LeftOrKept, around_form, goes_through, comes_to, rest_kept, numbers_of}
use Rattle.kept_forms.specs.Carried.{PassKept, RestKept, FormFits, Onwards}
use Rattle.expansion_laws.proofs.AlikeSides.{run_alike}
use Rattle.expansion_laws.proofs.AlikeUnits.{form_work}
use Rattle.expansion_laws.proofs.BoundedNotes.{Foreign}
use Rattle.forgotten_locals.specs.Outside.{is_outside, macros_outside, outside, IsOutside, forgotten}
use Rattle.forgotten_locals.specs.Ways.{Way, forgetting, left_of, firsts_by, seconds_by, unit_by, AtFirsts, AtSeconds, AtTurns, IsKept, IsRestKept, AllKept, CanBegin, RestCanBegin, AllBegin}
use Rattle.note_laws.specs.Searching.{searching}
use Rattle.note_laws.proofs.OfForms.{OfForm, Fits, OfFrames}
use Rattle.note_laws.proofs.OfForms as forms

-- a unit that imports nothing of its own
pub record Imports (u : ℕ) (s : ScopedState) : Type 0 where
  pub unit : s.unit ≡ u
  pub entries : (v : ℕ) (x : List ℕ) → GivenSo (Foreign u) (s.entry v x)

module _ (u : ℕ) where
  abbrev era : Era
  era = record { unit = u; worked = λ v. false }

  -- ---- a state outside of all forms

  -- macros of other forms stand outside all frames
  outside_meant : (ks : List ScopedMacro) → AllOf (λ (k : ScopedMacro). NoLocal k.meaning) (macros_outside ks)
  outside_meant [] = tt
  outside_meant (k ∷ ks) = go (is_outside k.meaning) refl (outside_meant ks)
    where
      free : (m : Meaning) → is_outside m ≡ true → NoLocal m
      free (Local v) e = let q : false ≡ true = e in absurd cc
      free (Global z i) e = tt
      free (Standard x) e = tt
      free (Free x) e = tt

      go : (t : Bool) → is_outside k.meaning ≡ t → AllOf (λ (k : ScopedMacro). NoLocal k.meaning) (macros_outside ks) → AllOf (λ (k : ScopedMacro). NoLocal k.meaning) (cond t (k ∷ macros_outside ks) (macros_outside ks))
      go true e h = (free k.meaning e, h)
      go false e h = h

  no_frames : (s : ScopedState) (m : Meaning) (k : ScopedMacro) → NoLocal m → MacroStands s m k → k.frames ≡ []
  no_frames s (Local v) k l h = absurd l
  no_frames s (Global z i) k l h = h.0
  no_frames s (Standard x) k l h = h.0
  no_frames s (Free x) k l h = h.0

  all_frames : (P : Frames → Type 0) → P [] → (s : ScopedState) (ks : List ScopedMacro) → AllOf (λ (k : ScopedMacro). NoLocal k.meaning) ks → Each (λ (k : ScopedMacro). MacroStands s k.meaning k) ks → AllOf (λ (k : ScopedMacro). P k.frames) ks
  all_frames P p s [] f h = tt
  all_frames P p s (k ∷ ks) f h = (subst P (sym (no_frames s k.meaning k f.0 h.0)) p, all_frames P p s ks f.1 h.1)

  module _ (s : ScopedState) (out : IsOutside s) (begins : Begins s) (imports : Imports u s) where
    no_places : s.places ≡ []
    no_places = sym (ap (λ (z : ScopedState). z.places) out)

    no_definitions : s.definitions ≡ []
    no_definitions = sym (ap (λ (z : ScopedState). z.definitions) out)

    meant : AllOf (λ (k : ScopedMacro). NoLocal k.meaning) s.macros
    meant = subst (λ (ks : List ScopedMacro). AllOf (λ (k : ScopedMacro). NoLocal k.meaning) ks) (ap (λ (z : ScopedState). z.macros) out) (outside_meant s.macros)

    pub ready : OfForm era s.form s
    ready = record {
      bounded = record {
        unit = imports.unit;
        definitions = subst (λ (ds : BodyDefinitions). DefinitionsCounted era s.locals ds) (sym no_definitions) tt;
        places = λ k. subst (λ (ps : List UsePlace). BindersCounted era s.locals (around ps k)) (sym no_places) tt;
        macros = all_frames (BindersCounted era s.locals) tt s s.macros meant begins.macros;
        entries = imports.entries;
      };
      form_is = refl;
      definitions = subst (λ (ds : BodyDefinitions). AllOf (λ (d : BodyDefinition). forms.IsOf era s.form d.binder) ds) (sym no_definitions) tt;
      places = λ k. subst (λ (ps : List UsePlace). OfFrames era s.form (around ps k)) (sym no_places) tt;
      macros = all_frames (OfFrames era s.form) tt s s.macros meant begins.macros;
    }

  notes_fit : (s : ScopedState) (ns : List (Note FramedIdent)) → Each (NoteStands s) ns → AllOf (NoteAll (λ (l : FramedIdent). Fits era s.form s l.frames)) ns
  notes_fit s [] h = tt
  notes_fit s (n ∷ ns) h = (go n h.0, notes_fit s ns h.1)
    where
      place : (l : FramedIdent) → l.frames ≡ [] → Fits era s.form s l.frames
      place l e = subst (Fits era s.form s) (sym e) (tt, tt)

      go : (n : Note FramedIdent) → NoteStands s n → NoteAll (λ (l : FramedIdent). Fits era s.form s l.frames) n
      go (LookedUp l head keyword) q = place l q.0
      go (Compared l j held) q = (place l q.0.0, place j q.1.0)

  -- ---- a turn

  imports_after : (f : ℕ) (s : ScopedState) → OfForm era f s → Imports u s
  imports_after f s g = record { unit = g.bounded.unit; entries = g.bounded.entries }

  pub imports_turned : (f : ℕ) (s : ScopedState) → Imports u s → Imports u (record s { form = f })
  imports_turned f s h = record { unit = h.unit; entries = h.entries }

  imports_outside : (s : ScopedState) → Imports u s → Imports u (outside s)
  imports_outside s h = record { unit = h.unit; entries = h.entries }

  module _ (turns : ℕ) (v : Around) (out : IsOutside v.state) (imports : Imports u v.state) where
    pub first_searched : (t : Tree Ident) → FormBegins v t → (run (searched v.known) turns [] (one_form t v.notes) v.state ≡ set_aside v turns t) × Imports u (set_aside v turns t).1
    first_searched t b =
        let g = ready v.state out b.state imports in
        let a = run_alike (counted v.known) (forms.searching era v.state.form v.known) [] tt turns (one_form t v.notes) v.state (g, (tt, tt)) (notes_fit v.state v.notes b.notes) in
        (a.same, imports_after v.state.form (set_aside v turns t).1 a.after.0)

    pub second_searched : (fs : List ℕ) (r : Result (Left Ident) Broken) → RestBegins v r
        → (form_parts (searched v.known) (expand (searched v.known) turns) [] fs r v.state ≡ form_parts (counted v.known) (expand (counted v.known) turns) [] fs r v.state) × Imports u (form_parts (counted v.known) (expand (counted v.known) turns) [] fs r v.state).1
    second_searched fs (Err e) b = (refl, imports)
    second_searched fs (Ok l) b =
        let g = ready v.state out b.state imports in
        let a = form_work (counted v.known) (forms.searching era v.state.form v.known) turns fs [] (Ok l) v.state (g, (tt, tt)) in
        (a.0, imports_after v.state.form (form_parts (counted v.known) (expand (counted v.known) turns) [] fs (Ok l) v.state).1 a.1.0)

  -- ---- all turns

  on_all : {X : Type 0} (P : X → ScopedState → Type 0) → ((x : X) (s : ScopedState) → P x s) → (q : Option X × ScopedState) → Onwards P q
  on_all P h (None, s) = tt
  on_all P h (Some x, s) = h x s

  module _ (turns : ℕ) (known : Known) (fs : List ℕ) where
    abbrev pub NotKept : List FormOrKept → Type 0
    NotKept xs = Each (λ (x : FormOrKept). x.kept ≡ None) xs

    abbrev pub LeftNotKept : List LeftOrKept → Type 0
    LeftNotKept rs = Each (λ (r : LeftOrKept). r.kept ≡ None) rs

    abbrev Passed : Type 0
    Passed = Option (List LeftOrKept) × ScopedState

    -- ---- nothing is kept

    add_none : (v : Around) (x : FormOrKept) → x.kept ≡ None → (q : Pass Ident FramedIdent) (t : ScopedState) (m : Passed) → Onwards (λ rs z. LeftNotKept rs) m → Onwards (λ rs z. LeftNotKept rs) (m then λ rest. going (left_of x v q t ∷ rest))
    add_none v x e q t (None, z) h = tt
    add_none v x e q t (Some rest, z) h = (ap (λ k. rest_kept v k) e, h)

    pub firsts_none : (way : Way) (xs : List FormOrKept) (ns : List (Note FramedIdent)) (s : ScopedState) → NotKept xs → Onwards (λ rs z. LeftNotKept rs) (firsts_by way known fs xs ns s)
    firsts_none way [] ns s k = tt
    firsts_none way (x ∷ xs) ns s k = let v = around_form known x.form ns s in go (λ q t. firsts_none way xs q.notes t k.1) v (unless_over (counted known) fs (way.first v x.tree x.kept))
      where
        go : ((q : Pass Ident FramedIdent) (t : ScopedState) → Onwards (λ rs z. LeftNotKept rs) (firsts_by way known fs xs q.notes t)) → (v : Around) (m : Option (Pass Ident FramedIdent) × ScopedState) → Onwards (λ rs z. LeftNotKept rs) (m then λ q t. firsts_by way known fs xs q.notes t then λ rest. going (left_of x v q t ∷ rest))
        go more v (None, t) = tt
        go more v (Some q, t) = add_none v x k.0 q t (firsts_by way known fs xs q.notes t) (more q t)

    pub firsts_kept : (way : Way) (xs : List FormOrKept) (ns : List (Note FramedIdent)) (s : ScopedState) → NotKept xs → AtFirsts (IsKept turns) way known fs xs ns s
    firsts_kept way [] ns s k = tt
    firsts_kept way (x ∷ xs) ns s k =
        let v = around_form known x.form ns s in (
          subst (PassKept v turns x.tree) (sym k.0) tt,
          on_all (λ q t. AtFirsts (IsKept turns) way known fs xs q.notes t) (λ q t. firsts_kept way xs q.notes t k.1) (unless_over (counted known) fs (way.first v x.tree x.kept)),
        )

    pub seconds_kept : (way : Way) (rs : List LeftOrKept) (s : ScopedState) → LeftNotKept rs → AtSeconds (IsRestKept turns) way known fs rs s
    seconds_kept way [] s k = tt
    seconds_kept way (r ∷ rs) s k =
        let v = around_form known r.form [] s in
        (subst (RestKept v turns) (sym k.0) tt, on_all (λ p t. AtSeconds (IsRestKept turns) way known fs rs t) (λ p t. seconds_kept way rs t k.1) (way.second fs v r.left r.kept))

    -- ---- the same is done

    -- in a unit that imports nothing of its own
    pub record Follows (q m : Passed) : Type 0 where
      pub same : m ≡ q
      pub imports : Imports u q.1

    add_left : (v : Around) (x : FormOrKept) (q : Pass Ident FramedIdent) (t : ScopedState) (a b : Passed) → Follows a b → Follows (a then λ rest. going (left_of x v q t ∷ rest)) (b then λ rest. going (left_of x v q t ∷ rest))
    add_left v x q t (None, z) b h = record { same = ap (λ (y : Passed). y then λ rest. going (left_of x v q t ∷ rest)) h.same; imports = h.imports }
    add_left v x q t (Some rest, z) b h = record { same = ap (λ (y : Passed). y then λ rest. going (left_of x v q t ∷ rest)) h.same; imports = h.imports }

    pub firsts_follow : (xs : List FormOrKept) (ns : List (Note FramedIdent)) (s : ScopedState) → NotKept xs → Imports u s → AtFirsts CanBegin (forgetting turns) known fs xs ns s → AtFirsts (λ v x. IsOutside v.state) (forgetting turns) known fs xs ns s
        → Follows (firsts_by (forgetting turns) known fs xs ns s) (firsts_by (searching turns) known fs xs ns s)
    firsts_follow [] ns s k i b o = record { same = refl; imports = i }
    firsts_follow (x ∷ xs) ns s k i b o =
        let v = around_form known x.form ns s in
        let a = first_searched turns v o.0 (imports_turned x.form s i) x.tree b.0.0 in
        let c : (forgetting turns).first v x.tree x.kept ≡ forgotten (set_aside v turns x.tree) = ap (λ z. forgotten (goes_through v turns x.tree z)) k.0 in
        let e : (searching turns).first v x.tree x.kept ≡ (forgetting turns).first v x.tree x.kept = ap forgotten a.0 ∙ sym c in
        let m : Imports u ((forgetting turns).first v x.tree x.kept).1 = subst (λ (z : Pass Ident FramedIdent × ScopedState). Imports u z.1) (sym c) (imports_outside (set_aside v turns x.tree).1 a.1) in
        let q = (forgetting turns).first v x.tree x.kept in
        let f = go (λ z t j c d. firsts_follow xs z.notes t k.1 j c d) v q m (nat_lt max_total (nodes_in (counted known) fs q.1)) b.1 o.1 in
        record {
          same = ap (λ (z : Pass Ident FramedIdent × ScopedState). unless_over (counted known) fs z then λ y t. firsts_by (searching turns) known fs xs y.notes t then λ rest. going (left_of x v y t ∷ rest)) e ∙ f.same;
          imports = f.imports;
        }
      where
        -- work ends or goes on
        go : ((z : Pass Ident FramedIdent) (t : ScopedState) → Imports u t → AtFirsts CanBegin (forgetting turns) known fs xs z.notes t → AtFirsts (λ v x. IsOutside v.state) (forgetting turns) known fs xs z.notes t → Follows (firsts_by (forgetting turns) known fs xs z.notes t) (firsts_by (searching turns) known fs xs z.notes t))
            → (v : Around) (q : Pass Ident FramedIdent × ScopedState) → Imports u q.1 → (over : Bool) → Onwards (λ z t. AtFirsts CanBegin (forgetting turns) known fs xs z.notes t) (cond over (None, q.1) (Some q.0, q.1))
            → Onwards (λ z t. AtFirsts (λ v x. IsOutside v.state) (forgetting turns) known fs xs z.notes t) (cond over (None, q.1) (Some q.0, q.1))
            → Follows (cond over (None, q.1) (Some q.0, q.1) then λ z t. firsts_by (forgetting turns) known fs xs z.notes t then λ rest. going (left_of x v z t ∷ rest))
            (cond over (None, q.1) (Some q.0, q.1) then λ z t. firsts_by (searching turns) known fs xs z.notes t then λ rest. going (left_of x v z t ∷ rest))
        go more v q m true b o = record { same = refl; imports = m }
        go more v q m false b o = add_left v x q.0 q.1 (firsts_by (forgetting turns) known fs xs q.0.notes q.1) (firsts_by (searching turns) known fs xs q.0.notes q.1) (more q.0 q.1 m b o)

    pub seconds_follow : (rs : List LeftOrKept) (s : ScopedState) → LeftNotKept rs → Imports u s → AtSeconds RestCanBegin (forgetting turns) known fs rs s → AtSeconds (λ v r. IsOutside v.state) (forgetting turns) known fs rs s
        → seconds_by (searching turns) known fs rs s ≡ seconds_by (forgetting turns) known fs rs s
    seconds_follow [] s k i b o = refl
    seconds_follow (r ∷ rs) s k i b o =
        let v = around_form known r.form [] s in
        let a = second_searched turns v o.0 (imports_turned r.form s i) fs r.left b.0.0 in
        let p = form_parts (counted known) (expand (counted known) turns) [] fs r.left v.state in
        let c : (forgetting turns).second fs v r.left r.kept ≡ forgotten p = ap (λ z. forgotten (comes_to v turns fs r.left z)) k.0 in
        let e : (searching turns).second fs v r.left r.kept ≡ (forgetting turns).second fs v r.left r.kept = ap forgotten a.0 ∙ sym c in
        let m : Imports u ((forgetting turns).second fs v r.left r.kept).1 = subst (λ (z : Option (Result Parts Broken) × ScopedState). Imports u z.1) (sym c) (imports_outside p.1 a.1) in
        ap (λ (z : Option (Result Parts Broken) × ScopedState). z then λ parts t. seconds_by (searching turns) known fs rs t then λ rest. going (formed parts t ∷ rest)) e
        ∙ go (λ t j c d. seconds_follow rs t k.1 j c d) ((forgetting turns).second fs v r.left r.kept) m b.1 o.1
      where
        formed : Result Parts Broken → ScopedState → Formed
        formed parts t = record { form = r.form; result = parts; counted = (counted known).counted t }

        go : ((t : ScopedState) → Imports u t → AtSeconds RestCanBegin (forgetting turns) known fs rs t → AtSeconds (λ v r. IsOutside v.state) (forgetting turns) known fs rs t → seconds_by (searching turns) known fs rs t ≡ seconds_by (forgetting turns) known fs rs t)
            → (q : Option (Result Parts Broken) × ScopedState) → Imports u q.1 → Onwards (λ p t. AtSeconds RestCanBegin (forgetting turns) known fs rs t) q → Onwards (λ p t. AtSeconds (λ v r. IsOutside v.state) (forgetting turns) known fs rs t) q
            → (q then λ parts t. seconds_by (searching turns) known fs rs t then λ rest. going (formed parts t ∷ rest)) ≡ (q then λ parts t. seconds_by (forgetting turns) known fs rs t then λ rest. going (formed parts t ∷ rest))
        go more (None, t) m b o = refl
        go more (Some p, t) m b o = ap (λ (z : Option (List Formed) × ScopedState). z then λ rest. going (formed p t ∷ rest)) (more t m b o)

  -- ---- the unit

  module _ (turns : ℕ) (known : Known) (xs : List FormOrKept) (s : ScopedState) (k : Each (λ (x : FormOrKept). x.kept ≡ None) xs) where
    pub unit_kept : AllKept (forgetting turns) turns known xs s
    unit_kept = (fits xs k, (firsts_kept turns known fs (forgetting turns) xs [] s k, more (firsts_by (forgetting turns) known fs xs [] s) (firsts_none turns known fs (forgetting turns) xs [] s k)))
      where
        fs : List ℕ
        fs = numbers_of xs

        fits : (ys : List FormOrKept) → Each (λ (x : FormOrKept). x.kept ≡ None) ys → Each (λ (x : FormOrKept). FormFits x.kept) ys
        fits [] h = tt
        fits (y ∷ ys) h = (subst FormFits (sym h.0) tt, fits ys h.1)

        more : (q : Option (List LeftOrKept) × ScopedState) → Onwards (λ rs z. LeftNotKept turns known fs rs) q → Onwards (λ rs t. AtSeconds (IsRestKept turns) (forgetting turns) known fs rs t) q
        more (None, t) h = tt
        more (Some rs, t) h = seconds_kept turns known fs (forgetting turns) rs t h

    pub unit_follows : Imports u s → AllBegin (forgetting turns) known xs s → AtTurns (λ v x. IsOutside v.state) (λ v r. IsOutside v.state) (forgetting turns) known xs s → unit_by (searching turns) known xs s ≡ unit_by (forgetting turns) known xs s
    unit_follows i b o =
        let f = firsts_follow turns known (numbers_of xs) xs [] s k i b.0 o.0 in
        ap (λ (z : Option (List LeftOrKept) × ScopedState). z then seconds_by (searching turns) known (numbers_of xs)) f.same
        ∙ go (firsts_by (forgetting turns) known (numbers_of xs) xs [] s) f.imports (firsts_none turns known (numbers_of xs) (forgetting turns) xs [] s k) b.1 o.1
      where
        go : (q : Option (List LeftOrKept) × ScopedState) → Imports u q.1 → Onwards (λ rs z. LeftNotKept turns known (numbers_of xs) rs) q → Onwards (λ rs t. AtSeconds RestCanBegin (forgetting turns) known (numbers_of xs) rs t) q
            → Onwards (λ rs t. AtSeconds (λ v r. IsOutside v.state) (forgetting turns) known (numbers_of xs) rs t) q → (q then seconds_by (searching turns) known (numbers_of xs)) ≡ (q then seconds_by (forgetting turns) known (numbers_of xs))
        go (None, t) m n b o = refl
        go (Some rs, t) m n b o = seconds_follow turns known (numbers_of xs) rs t n m b o
