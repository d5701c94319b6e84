-- A unit whose definitions ask the notes that speak of their identifiers is the unit by counts.
use Rattle.std.proofs.Common.{◌≡◌, ℕ, zero, suc, List, [], ◌∷◌, take, Bool, true, false, cond, Option, Some, None, Result, Ok, Err, refl, sym, ap, ◌∙◌, subst}
use Rattle.std.specs.Prelude.{nat_lt}
use Rattle.scheme_model.specs.Ident.{Ident}
use Rattle.scheme_model.specs.Trees.{Tree}
use Rattle.scheme_model.specs.Requirements.{Known}
use Rattle.scheme_model.specs.Cores.{Parts}
use Rattle.scheme_model.specs.Steps.{Broken}
use Rattle.scheme_model.specs.Order.{Note, Pass, run}
use Rattle.scheme_model.specs.Expression.{expand}
use Rattle.scheme_model.specs.UnitExpansion.{Formed as FormResult, Work, ◌then◌, going, max_total, nodes_in, unless_over, one_form, passes, form_parts, finished}
use Rattle.scheme_model.specs.ScopedExpansion.{FramedIdent, ScopedState, scoped}
use Rattle.scheme_model.specs.CountedExpansion.{counted}
use Rattle.unit_scopes.specs.Searched.{speaks_of, searched}
use Rattle.model_laws.proofs.FrameEras.{Era}
use Rattle.model_laws.proofs.FrameAsks.{AllOf, BindersCounted}
use Rattle.model_laws.proofs.EntryLaws.{GivenNoLocal}
use Rattle.model_laws.proofs.FrameStates.{FineState, Grows, grows_itself}
use Rattle.model_laws.proofs.FrameHeld.{NoteAll, notes_more}
use Rattle.model_laws.proofs.FrameForms.{forms_law}
use Rattle.model_laws.proofs.FrameUnit.{UnitLeaf, UnitPlace, UnitRule, UnitState, UnitInside, Noted, unit_facts}
use Rattle.model_laws.proofs.UnitEnds.{Both, both_end, both_go}
use Rattle.model_laws.proofs.FrameUnits.{Aside, FormHeld, passed, turned, forms_later}
use Rattle.model_laws.proofs.CountedStates.{Formed, LocalsKept, Holds, locals_later, form_begins}
use Rattle.model_laws.proofs.CountedUnits.{every, run_same, left_same, SetStands, sets_later, EndedSame, SetsSame, passes_same, KeptSame, aside_same}
use Rattle.expansion_laws.proofs.AlikeSides.{run_alike}
use Rattle.expansion_laws.proofs.AlikeUnits.{form_work}
use Rattle.expansion_laws.proofs.BoundedNotes.{Bounded}
use Rattle.expansion_laws.proofs.SearchedStates.{turned_bounded, searching}

pub all_take : {X : Type 0} (P : X → Type 0) (n : ℕ) (xs : List X) → AllOf P xs → AllOf P (take n xs)
all_take P zero xs h = tt
all_take P (suc n) [] h = tt
all_take P (suc n) (x ∷ xs) h = (h.0, all_take P n xs h.1)

-- two sides that give the same give the same
pub both_same : {S X : Type 0} {Ended : S → S → Type 0} {Going : S → S → X → X → Type 0} {q m : Option X × S} → ((s t : S) → Ended s t → t ≡ s) → ((s t : S) (x y : X) → Going s t x y → (t ≡ s) × (y ≡ x)) → Both Ended Going q m → m ≡ q
both_same ended goes (both_end s t e d h) = let b = ended s t h in d ∙ ((λ j. (None, b j)) ∙ sym e)
both_same ended goes (both_go x y s t e d h) = let b = goes s t x y h in let c = b.0 in let f = b.1 in d ∙ ((λ j. (Some (f j), c j)) ∙ sym e)

module _ (w : Era) (known : Known) where
  module _ (turns : ℕ) (fs : List ℕ) where
    -- ---- the forms gone through

    abbrev Passing : Type 0
    Passing = Option (List (ℕ × Aside Ident)) × ScopedState

    pub record PassesSearched (ts : List (ℕ × Tree Ident)) (ns : List (Note FramedIdent)) (s : ScopedState) : Type 0 where
      pub same : passes (searched known) turns [] fs ts ns s ≡ passes (counted known) turns [] fs ts ns s
      pub bounded : Bounded w (passes (scoped known) turns [] fs ts ns s).1

    abbrev first_then : ℕ → Pass Ident FramedIdent → (List (Note FramedIdent) → Work ScopedState (List (ℕ × Aside Ident))) → Work ScopedState (List (ℕ × Aside Ident))
    first_then form q behind t = behind q.notes t then λ rest. going ((form, q.left) ∷ rest)

    with_first : (form : ℕ) (q : Pass Ident FramedIdent) (m : Passing) → Bounded w m.1 → Bounded w (m then λ rest. going ((form, q.left) ∷ rest)).1
    with_first form q (None, t) h = h
    with_first form q (Some rest, t) h = h

    first_same : (form : ℕ) (q : Pass Ident FramedIdent) (t : ScopedState) (f g : List (Note FramedIdent) → Work ScopedState (List (ℕ × Aside Ident))) → f q.notes t ≡ g q.notes t → (over : Bool) →
        (cond over (None, t) (Some q, t) then λ x. first_then form x f) ≡ (cond over (None, t) (Some q, t) then λ x. first_then form x g)
    first_same form q t f g h true = refl
    first_same form q t f g h false = ap (λ (m : Passing). m then λ rest. going ((form, q.left) ∷ rest)) h

    first_bounded : (form : ℕ) (q : Pass Ident FramedIdent) (t : ScopedState) (f : List (Note FramedIdent) → Work ScopedState (List (ℕ × Aside Ident))) → Bounded w t → Bounded w (f q.notes t).1 → (over : Bool) → Bounded w (cond over (None, t) (Some q, t) then λ x. first_then form x f).1
    first_bounded form q t f h k true = h
    first_bounded form q t f h k false = with_first form q (f q.notes t) k

    pub passes_searched : (ts : List (ℕ × Tree Ident)) (ns : List (Note FramedIdent)) (s : ScopedState) → UnitState w known s → Formed s.places s.definitions → LocalsKept w s → AllOf (FormHeld w known s) ts → AllOf (NoteAll (UnitPlace w known s)) ns → Bounded w s → PassesSearched ts ns s
    passes_searched [] ns s k fd l h hn g = record { same = refl; bounded = g }
    passes_searched (t ∷ ts) ns s k fd l h hn g =
        let s1 = turned w known t.0 s in
        let p = one_form t.1 ns in
        let r = run (scoped known) turns [] p s1 in
        let k1 : UnitState w known s1 = record { fine = k.fine; entries = k.entries } in
        let done = passed w known s1 _ _ (forms_law w known [] (UnitInside w known s1) (Grows w) (UnitLeaf w known) (UnitPlace w known) (UnitRule w known) (Noted w known s1) (unit_facts w known s1) turns p s1 false [] (k1, refl, grows_itself w s1) ((h.0, tt), tt, hn, tt)) in
        let begins = form_begins w s1 k.fine.0 fd l k.fine.1.stands k.entries in
        let one = run_same w known every s1 begins turns t.1 h.0 ns hn in
        let sought = run_same w known speaks_of s1 begins turns t.1 h.0 ns hn in
        let walked = run_alike (scoped known) (searching w known) [] tt turns p s1 (turned_bounded w s g t.0, tt) (notes_more (UnitPlace w known s1) (λ (l : FramedIdent). BindersCounted w s1.locals l.frames) (λ l q. subst (BindersCounted w s1.locals) (sym q.0) tt) ns hn) in
        let after = walked.after.0 in
        let rest = passes_searched ts r.0.notes r.1 done.unit_state one.holds.formed (locals_later w s1 s1.form r.1 one.holds) (forms_later w known turns fs s1 r.1 done.grows ts h.1) done.stood after in
        let over = nat_lt max_total (nodes_in (scoped known) fs r.1) in
        record {
          same = ap (λ (q : Pass Ident FramedIdent × ScopedState). unless_over (searched known) fs q then λ x. first_then t.0 x (passes (searched known) turns [] fs ts)) (sought.same ∙ walked.same)
              ∙ (first_same t.0 r.0 r.1 (passes (searched known) turns [] fs ts) (passes (counted known) turns [] fs ts) rest.same over
              ∙ sym (ap (λ (q : Pass Ident FramedIdent × ScopedState). unless_over (counted known) fs q then λ x. first_then t.0 x (passes (counted known) turns [] fs ts)) one.same));
          bounded = first_bounded t.0 r.0 r.1 (passes (scoped known) turns [] fs ts) after rest.bounded over;
        }

    -- ---- what was set aside, expanded

    abbrev sought : Aside Ident → Work ScopedState (Result Parts Broken)
    sought r s = form_parts (searched known) (expand (searched known) turns) [] fs r s

    abbrev by_scopes : Aside Ident → Work ScopedState (Result Parts Broken)
    by_scopes r s = form_parts (scoped known) (expand (scoped known) turns) [] fs r s

    abbrev by_counts : Aside Ident → Work ScopedState (Result Parts Broken)
    by_counts r s = form_parts (counted known) (expand (counted known) turns) [] fs r s

    record AsideSearched (s : ScopedState) (r : Aside Ident) : Type 0 where
      same : sought r s ≡ by_scopes r s
      bounded : Bounded w (by_scopes r s).1

    aside_searched : (s : ScopedState) → Holds w s s.form s → (r : Aside Ident) → SetStands w known s (s.form, r) → Bounded w s → AsideSearched s r
    aside_searched s h (Ok l) k g =
        let walked = form_work (scoped known) (searching w known) turns fs [] (Ok l) s (g, tt) in
        record { same = both_same (λ v t q. q.0) (λ v t x y q. (q.0, q.1)) (left_same w known speaks_of s h turns fs l k.0 k.1) ∙ walked.0; bounded = walked.1.0 }
    aside_searched s h (Err e) k g = record { same = refl; bounded = g }

    abbrev form_then : ℕ → (ScopedState → Option (List FormResult) × ScopedState) → Result Parts Broken → Work ScopedState (List FormResult)
    form_then form behind parts t = behind t then λ rest. going (record { form = form; result = parts; counted = (counted known).counted t } ∷ rest)

    abbrev FinishedSame : List (ℕ × Aside Ident) → Type 0
    FinishedSame rs = (s : ScopedState) → FineState w s → Formed s.places s.definitions → LocalsKept w s → ((u : ℕ) (x : List ℕ) → GivenNoLocal (s.entry u x)) → AllOf (SetStands w known s) rs → Bounded w s
        → finished (searched known) (expand (searched known) turns) [] fs rs s ≡ finished (counted known) (expand (counted known) turns) [] fs rs s

    pub finished_searched : (rs : List (ℕ × Aside Ident)) (s : ScopedState) → FineState w s → Formed s.places s.definitions → LocalsKept w s → ((u : ℕ) (x : List ℕ) → GivenNoLocal (s.entry u x)) → AllOf (SetStands w known s) rs → Bounded w s
        → finished (searched known) (expand (searched known) turns) [] fs rs s ≡ finished (counted known) (expand (counted known) turns) [] fs rs s
    finished_searched [] s f fd l en h g = refl
    finished_searched (r ∷ rs) s f fd l en h g =
        let s1 = turned w known r.0 s in
        let begins = form_begins w s1 f.0 fd l f.1.stands en in
        let two = aside_searched s1 begins r.1 h.0 (turned_bounded w s g r.0) in
        go (λ v e d k n x b. finished_searched rs v e d k n x b) two (aside_same w known turns fs s1 f begins r.1 h.0)
      where
        s1 : ScopedState
        s1 = turned w known r.0 s

        sought_then : Result Parts Broken → Work ScopedState (List FormResult)
        sought_then = form_then r.0 (finished (searched known) (expand (searched known) turns) [] fs rs)

        counted_then : Result Parts Broken → Work ScopedState (List FormResult)
        counted_then = form_then r.0 (finished (counted known) (expand (counted known) turns) [] fs rs)

        go : FinishedSame rs → AsideSearched s1 r.1 → Both (EndedSame w known turns fs) (KeptSame w known turns fs s1) (by_scopes r.1 s1) (by_counts r.1 s1) → (sought r.1 s1 then sought_then) ≡ (by_counts r.1 s1 then counted_then)
        go next two (both_end v t e d z) =
            let b = sym z.0 in
            ap (λ q. q then sought_then) (two.same ∙ e) ∙ ((λ j. (None, b j)) ∙ sym (ap (λ q. q then counted_then) d))
        go next two (both_go x y v t e d z) =
            let b = sym z.0 in
            let c = sym z.1 in
            let now : Bounded w v = subst (λ (q : Option (Result Parts Broken) × ScopedState). Bounded w q.1) e two.bounded in
            let rest = next v z.3 z.2.formed (locals_later w s1 s1.form v z.2) z.2.entries (sets_later w known s v z.4 rs h.1) now in
            ap (λ q. q then sought_then) (two.same ∙ e)
            ∙ (ap (λ (m : Option (List FormResult) × ScopedState). m then λ rest. going (record { form = r.0; result = x; counted = (counted known).counted v } ∷ rest)) rest
            ∙ ((λ j. counted_then (c j) (b j)) ∙ sym (ap (λ q. q then counted_then) d)))

  -- ---- the whole unit, and fronts of its forms

  module _ (turns : ℕ) (fs : List ℕ) (ts : List (ℕ × Tree Ident)) (s : ScopedState) (k : UnitState w known s) (fd : Formed s.places s.definitions) (l : LocalsKept w s) (h : AllOf (FormHeld w known s) ts) (g : Bounded w s) where
    pub front_passed : (n : ℕ) → passes (searched known) turns [] fs (take n ts) [] s ≡ passes (counted known) turns [] fs (take n ts) [] s
    front_passed n = (passes_searched turns fs (take n ts) [] s k fd l (all_take (FormHeld w known s) n ts h) tt g).same

    pub all_passed : passes (searched known) turns [] fs ts [] s ≡ passes (counted known) turns [] fs ts [] s
    all_passed = (passes_searched turns fs ts [] s k fd l h tt g).same

    -- what follows, of some of what is left
    module _ (some : List (ℕ × Aside Ident) → List (ℕ × Aside Ident)) (stand : (v : ScopedState) (rs : List (ℕ × Aside Ident)) → AllOf (SetStands w known v) rs → AllOf (SetStands w known v) (some rs)) where
      abbrev sought_some : List (ℕ × Aside Ident) → Work ScopedState (List FormResult)
      sought_some rs = finished (searched known) (expand (searched known) turns) [] fs (some rs)

      abbrev counted_some : List (ℕ × Aside Ident) → Work ScopedState (List FormResult)
      counted_some rs = finished (counted known) (expand (counted known) turns) [] fs (some rs)

      pub some_finished : (passes (counted known) turns [] fs ts [] s then sought_some) ≡ (passes (counted known) turns [] fs ts [] s then counted_some)
      some_finished = go (passes_same w known turns fs ts [] s k fd l h tt)
        where
          go : Both (EndedSame w known turns fs) (SetsSame w known turns fs s) (passes (scoped known) turns [] fs ts [] s) (passes (counted known) turns [] fs ts [] s) → (passes (counted known) turns [] fs ts [] s then sought_some) ≡ (passes (counted known) turns [] fs ts [] s then counted_some)
          go (both_end v t e d z) = ap (λ q. q then sought_some) d ∙ sym (ap (λ q. q then counted_some) d)
          go (both_go x y v t e d z) =
              let b = z.0 in
              let c = z.1 in
              let now : Bounded w v = subst (λ (q : Option (List (ℕ × Aside Ident)) × ScopedState). Bounded w q.1) e (passes_searched turns fs ts [] s k fd l h tt g).bounded in
              let same = finished_searched turns fs (some x) v z.2.0.fine z.2.2 z.2.3 z.2.0.entries (stand v x z.3) now in
              ap (λ q. q then sought_some) d ∙ ((λ j. sought_some (c j) (b j)) ∙ (same ∙ ((λ j. counted_some (sym c j) (sym b j)) ∙ sym (ap (λ q. q then counted_some) d))))

    pub front_finished : (n : ℕ) → (passes (counted known) turns [] fs ts [] s then λ rs. finished (searched known) (expand (searched known) turns) [] fs (take n rs)) ≡ (passes (counted known) turns [] fs ts [] s then λ rs. finished (counted known) (expand (counted known) turns) [] fs (take n rs))
    front_finished n = some_finished (take n) (λ v rs a. all_take (SetStands w known v) n rs a)

    pub unit_searched : (passes (searched known) turns [] fs ts [] s then finished (searched known) (expand (searched known) turns) [] fs) ≡ (passes (counted known) turns [] fs ts [] s then finished (counted known) (expand (counted known) turns) [] fs)
    unit_searched = ap (λ q. q then finished (searched known) (expand (searched known) turns) [] fs) all_passed ∙ some_finished (λ rs. rs) (λ v rs a. a)
